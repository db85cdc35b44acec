-- The ends of the loops over a batch, and how many outcomes there are.
use Rattle.std.proofs.Common.{◌≡◌, ℕ, suc, Bool, List, [], ◌∷◌, ◌++◌, length, append-nil, Result, refl, ap, ◌∙◌, subst}
use Rattle.std.proofs.lemmas.List.{length-map}
use Rattle.resp_core.specs.Trees.{Tree}
use Rattle.resp_core.specs.Errors.{Refusal}
use Rattle.cluster_calls.specs.Links.World.{World}
use Rattle.proxy_core.specs.declared.outcome.Outcome.{Outcome}
use Rattle.proxy_core.specs.declared.servers.Waiting.{Waiting}
use Rattle.proxy_core.specs.Batch.{batch_of}
use Rattle.cluster_servers.specs.declared.command.GuestCommand.{GuestCommand}
use Rattle.cluster_servers.specs.declared.reply.Reply.{Reply}
use Rattle.cluster_servers.specs.Alone.{AreAskedAlone}
use Rattle.cluster_servers.specs.Together.{AreTold, entries_of}

abbrev Outcomes : Type 0
Outcomes = List (Outcome Reply)

-- nothing is left to be told
pub told_end : (left : List (Waiting GuestCommand)) (queue : List (Result Tree Refusal)) (outcomes : Outcomes) (P : Outcomes → Type 0) → length left ≡ 0 → length queue ≡ 0 → ((rest : Outcomes) → AreTold (batch_of left) queue rest → P (outcomes ++ rest)) → P outcomes
told_end [] [] outcomes P l q h = subst P (append-nil outcomes) (h [] tt)
told_end [] (t ∷ ts) outcomes P l q h = cc
told_end (a ∷ as') queue outcomes P l q h = cc

pub alone_end : (patient : Bool) (now : World) (left : List (Waiting GuestCommand)) (outcomes : Outcomes) (P : Outcomes → Type 0) → length left ≡ 0 → ((rest : Outcomes) → AreAskedAlone patient now now (batch_of left) rest → P (outcomes ++ rest)) → P outcomes
alone_end patient now [] outcomes P l h = subst P (append-nil outcomes) (h [] refl)
alone_end patient now (a ∷ as') outcomes P l h = cc

-- as many outcomes as commands
pub told_length : (batch : List (ℕ × GuestCommand)) (told : List (Result Tree Refusal)) (outcomes : Outcomes) → AreTold batch told outcomes → length outcomes ≡ length batch
told_length [] [] [] h = refl
told_length [] [] (o ∷ os) h = absurd h
told_length [] (t ∷ ts) os h = absurd h
told_length (b ∷ bs) [] os h = absurd h
told_length (b ∷ bs) (t ∷ ts) [] h = absurd h
told_length (b ∷ bs) (t ∷ ts) (o ∷ os) h = ap (λ n. suc n) (told_length bs ts os h.1)

pub alone_length : (patient : Bool) (old new : World) (batch : List (ℕ × GuestCommand)) (outcomes : Outcomes) → AreAskedAlone patient old new batch outcomes → length outcomes ≡ length batch
alone_length patient old new [] [] h = refl
alone_length patient old new [] (o ∷ os) h = absurd h
alone_length patient old new (b ∷ bs) [] h = absurd h
alone_length patient old new (b ∷ bs) (o ∷ os) h = ap (λ n. suc n) (alone_length patient h.0 new bs os h.2)

pub batch_length : (batch : List (Waiting GuestCommand)) → length (batch_of batch) ≡ length batch
batch_length batch = length-map batch (λ (a : Waiting GuestCommand). (a.guest, a.command.now))

pub entries_length : (batch : List (Waiting GuestCommand)) → length (entries_of (batch_of batch)) ≡ length batch
entries_length batch = length-map (batch_of batch) _ ∙ batch_length batch
