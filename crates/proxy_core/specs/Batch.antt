-- The commands of several guests in one list, each beside its guest.
use Rattle.std.specs.Prelude.{ℕ, suc, Bool, cond, ◌==◌, List, [], ◌∷◌, ◌++◌, map, length, drop}
use Rattle.proxy_core.specs.declared.outcome.Outcome.{Outcome}
use Rattle.proxy_core.specs.declared.queue.Entry.{Entry}
use Rattle.proxy_core.specs.declared.servers.Waiting.{Waiting}
use Rattle.proxy_core.specs.Queue.{waiting, settled}

-- what servers may do in one call: before it, what it asks, the outcomes, and after it
abbrev pub Asks : Type 0 → Type 0 → Type 0 → Type 1
Asks S C V = S → List (ℕ × C) → List (Outcome V) → S → Type 0

-- what a batch asks
abbrev pub batch_of : {C : Type 0} → List (Waiting C) → List (ℕ × C)
batch_of {C} batch = map (λ (a : Waiting C). (a.guest, a.command.now)) batch

-- a guest's commands, each beside the guest
abbrev pub asked_by : {C : Type 0} → ℕ → List C → List (ℕ × C)
asked_by {C} g cs = map (λ (c : C). (g, c)) cs

-- the commands of guest g in a batch
abbrev pub commands_of : {C : Type 0} → ℕ → List (ℕ × C) → List C
commands_of g [] = []
commands_of g (b ∷ bs) = cond (b.0 == g) (b.1 ∷ commands_of g bs) (commands_of g bs)

-- their outcomes
abbrev pub outcomes_of : {C V : Type 0} → ℕ → List (ℕ × C) → List (Outcome V) → List (Outcome V)
outcomes_of g [] os = []
outcomes_of g (b ∷ bs) [] = []
outcomes_of g (b ∷ bs) (o ∷ os) = cond (b.0 == g) (o ∷ outcomes_of g bs os) (outcomes_of g bs os)

-- what waits in all queues, from that of guest g on
abbrev pub batch_from : {C V : Type 0} → ℕ → List (List (Entry C V)) → List (ℕ × C)
batch_from g [] = []
batch_from g (q ∷ qs) = asked_by g (waiting q) ++ batch_from (suc g) qs

-- all queues as a turn leaves them whose outcomes stand queue behind queue
abbrev pub all_settled : {C V : Type 0} → (C → C → Bool) → List (List (Entry C V)) → List (Outcome V)
    → List (List (Entry C V))
all_settled overlaps [] os = []
all_settled overlaps (q ∷ qs) os =
    settled overlaps q os ∷ all_settled overlaps qs (drop (length (waiting q)) os)
