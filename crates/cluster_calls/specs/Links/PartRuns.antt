-- Parts sent one after another, each behind its redirects, and what this makes of the whole call.
use Rattle.std.specs.Prelude.{◌≡◌, ◌≢◌, ◌<◌, ℕ, ◌||◌, false, List, [], ◌∷◌, ◌++◌, map, filter, length, Some, Result, Ok, Err}
use Rattle.std.specs.List.{AllByRecursion}
use Rattle.resp_core.specs.Trees.{Tree}
use Rattle.resp_core.specs.Errors.{Refusal, by_cause}
use Rattle.resp_core.specs.declared.errors.redis_error.Cause.TheVariants.{Memory}
use Rattle.cluster_routing.specs.Address.{Address}
use Rattle.cluster_routing.specs.Combine.{PartReply}
use Rattle.cluster_routing.specs.Policies.{or_bad_reply}
use Rattle.cluster_calls.specs.Links.Log.{Exchange, is_answered, behind_answers}
use Rattle.cluster_calls.specs.Links.World.{World}
use Rattle.cluster_calls.specs.Links.Faults.{LinkFault}
use Rattle.cluster_calls.specs.Links.Events.{Event, Runs, log_of, exchanges_of, Agrees, lack_memory, StopsAtMemory, answered_moved}
use Rattle.cluster_calls.specs.Links.Chains.{IsSingle}
use Rattle.cluster_calls.specs.Links.Happened.{client_of}
use Rattle.cluster_calls.specs.Links.Lacking.{LacksWhere}
use Rattle.cluster_calls.specs.Calls.Plan.{Client, Dispatch}
use Rattle.cluster_calls.specs.Calls.Legal.{PartByPart}
use Rattle.cluster_calls.specs.Calls.Replies.{args_slot, reply_or_nil, reply_of_parts}
use Rattle.cluster_calls.specs.Calls.Refusals.{part_refusal}

-- ---- the run of the parts

-- Each part has one answered exchange, in order, with these replies, and nothing stands behind the last; or
-- the refusal is by the exchanges behind the answered ones.
abbrev pub ArePartResults : Client → (Address → LinkFault) → List Dispatch → List Exchange
    → Result (List Tree) Refusal → Type 0
ArePartResults client faults ds xs (Ok trees) =
    (behind_answers xs ≡ [])
    × (map (λ (x : Exchange). x.request.args) (filter is_answered xs) ≡ map (λ (d : Dispatch). d.args) ds)
    × (map reply_or_nil (filter is_answered xs) ≡ trees)
ArePartResults client faults ds xs (Err refusal) = part_refusal client faults (behind_answers xs)
    ≡ Some refusal

-- The parts were sent in order, each behind its redirects, up to the first that was refused; the result is
-- what their replies tell.
pub record PartsAnswered (old new : World) (ds : List Dispatch) (events : List Event)
    (result : Result (List Tree) Refusal) : Type 0 where
  pub memory : lack_memory events ≡ false
  pub parts : (place : ℕ) → PartByPart (client_of old) ds (exchanges_of place events)
  pub tells : (faults : Address → LinkFault) → Agrees faults events → (place : ℕ)
      → ArePartResults (client_of old) faults ds (exchanges_of place events) result

-- What the link calls of all parts did, also where memory was refused: then they begin such a run, and not all
-- parts were answered.
pub record PartsMade (old new : World) (ds : List Dispatch)
    (result : Result (List Tree) Refusal) : Type 0 where
  pub events : List Event
  pub runs : Runs old.nodes new.nodes events
  pub stops : StopsAtMemory events
  pub logged : new.log ≡ old.log ++ log_of events
  pub single : AllByRecursion IsSingle events
  pub begins : (place : ℕ) → (later : List Exchange)
      × PartByPart (client_of old) ds (exchanges_of place events ++ later)
  pub flag : new.needs_refresh ≡ (old.needs_refresh || answered_moved events)
  pub entries : new.entries ≡ old.entries
  pub settings : new.settings ≡ old.settings
  pub picked : new.picked ≡ old.picked
  pub answered : result ≢ Err (by_cause Memory) → PartsAnswered old new ds events result
  pub room : result ≡ Err (by_cause Memory) → events ≢ [] → LacksWhere (client_of old).links events
      ((place : ℕ) → PartByPart (client_of old) ds (exchanges_of place events))
  pub unanswered : result ≡ Err (by_cause Memory) → events ≢ [] → (place : ℕ)
      → length (filter is_answered (exchanges_of place events)) < length ds

-- ---- the whole call's reply

-- the parts' replies, each with the slot of its part
abbrev pub replies_with_slots : List Dispatch → List Tree → List PartReply
replies_with_slots (d ∷ ds) (tree ∷ trees) = record { slot = args_slot d.args; tree = tree }
    ∷ replies_with_slots ds trees
replies_with_slots _ _ = []

-- The reply is made of those of the parts, or refused where none can be made of them; a part's refusal
-- refuses the call. Memory may be refused when the parts were answered.
abbrev pub IsMadeOfParts : List (List ℕ) → List Dispatch → Result (List Tree) Refusal → Result Tree Refusal
    → Type 0
IsMadeOfParts args ds (Ok trees) reply = reply ≢ Err (by_cause Memory)
    → reply ≡ or_bad_reply (reply_of_parts args (replies_with_slots ds trees))
IsMadeOfParts args ds (Err refusal) reply = reply ≡ Err refusal
