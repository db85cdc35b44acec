-- What fates mean of a log.
use Rattle.std.proofs.Common.{◌≡◌, ◌≢◌, ℕ, Bool, true, false, cond, List, [], ◌∷◌, map, Option, Some, None, Result, Ok, Err, refl, sym, ap, ◌∙◌}
use Rattle.resp_core.specs.Trees.{Tree}
use Rattle.resp_core.specs.Errors.{Refusal, cause_of}
use Rattle.resp_core.specs.declared.errors.redis_error.Cause.{Cause}
use Rattle.resp_core.specs.declared.errors.redis_error.Cause.TheVariants as causes
use Rattle.cluster_calls.specs.Calls.Each.{fate_of}
use Rattle.cluster_calls.specs.Links.Request.{Request}
use Rattle.cluster_calls.proofs.LogLaws.Fates.{positions_known}
use Rattle.proxy_core.specs.declared.outcome.Fate.TheVariants.{Answered, Redirected, NotAsked}
use Rattle.proxy_core.specs.declared.outcome.Outcome.{Outcome}
use Rattle.cluster_servers.specs.declared.command.GuestCommand.{GuestCommand}
use Rattle.cluster_servers.specs.declared.reply.Reply.{Reply}
use Rattle.cluster_servers.specs.Asked.{FatesOfOneCommand, FatesOfSeveral}
use Rattle.cluster_servers.specs.Fates.{fate_alone, fate_by, sent_fate, unsent_fate}
use Rattle.cluster_servers.specs.Together.{AreTold, entries_of}

fates_told : (batch : List (ℕ × GuestCommand)) (told : List (Result Tree Refusal)) (outcomes : List (Outcome Reply)) → AreTold batch told outcomes → map (λ (o : Outcome Reply). o.fate) outcomes ≡ map (λ (t : Result Tree Refusal). fate_by (fate_of t)) told
fates_told [] [] [] h = refl
fates_told [] [] (o ∷ os) h = absurd h
fates_told [] (t ∷ ts) os h = absurd h
fates_told (b ∷ bs) [] os h = absurd h
fates_told (b ∷ bs) (t ∷ ts) [] h = absurd h
fates_told (b ∷ bs) (t ∷ ts) (o ∷ os) h =
    let first = h.0.fate in
    let rest = fates_told bs ts os h.1 in
    ap (λ f. f ∷ map (λ (p : Outcome Reply). p.fate) os) first ∙ ap (λ fs. fate_by (fate_of t) ∷ fs) rest

pub fates_of_several : FatesOfSeveral
fates_of_several old new batch outcomes asked place =
    (positions_known None old new (entries_of batch) asked.told asked.made place, fates_told batch asked.told outcomes asked.each)

pub fates_of_one_command : FatesOfOneCommand
fates_of_one_command patient old new command outcome asked = by asked.result new.log asked.fate
  where
    by : (result : Result Tree Refusal) (log : List Request) → outcome.fate ≡ fate_alone patient log result → (outcome.fate ≢ Redirected) × (outcome.fate ≡ NotAsked → log ≡ [])
    by (Ok tree) log f = ((λ e. cc), λ e. cc)
    by (Err refusal) [] f = ((λ e. absurd (never (cause_of refusal) (sym f ∙ e))), λ e. refl)
      where
        by_patience : (b : Bool) → cond b NotAsked Answered ≡ Redirected → ⊥
        by_patience true e = cc
        by_patience false e = cc

        never : (cause : Option Cause) → unsent_fate patient cause ≡ Redirected → ⊥
        never None e = cc
        never (Some causes.UnreadableAddress) e = cc
        never (Some causes.RepeatedAddress) e = cc
        never (Some causes.SettingOutOfRange) e = cc
        never (Some causes.NoResponse) e = cc
        never (Some causes.NoRoute) e = cc
        never (Some causes.CursorInSplit) e = cc
        never (Some causes.BrokenTuples) e = cc
        never (Some causes.BadOrder) e = cc
        never (Some causes.NoNode) e = by_patience patient e
        never (Some causes.NoLink) e = by_patience patient e
        never (Some causes.NoKeys) e = cc
        never (Some causes.SeveralSlots) e = cc
        never (Some causes.BadGroupName) e = cc
        never (Some causes.Io) e = cc
        never (Some causes.Parse) e = cc
        never (Some causes.UnexpectedReturnType) e = cc
        never (Some causes.Memory) e = by_patience patient e
        never (Some causes.ClaimsIdsAlone) e = cc
        never (Some causes.LevelsOutOfRange) e = cc
        never (Some causes.NotAsked) e = cc
    by (Err refusal) (r ∷ log) f = by_cause (cause_of refusal) f
      where
        by_cause : (cause : Option Cause) → outcome.fate ≡ sent_fate cause → (outcome.fate ≢ Redirected) × (outcome.fate ≡ NotAsked → r ∷ log ≡ [])
        by_cause None f = ((λ e. cc), λ e. cc)
        by_cause (Some cause) f = ((λ e. cc), λ e. cc)
