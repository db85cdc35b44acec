-- The attempts at a transaction, one behind another: its requests, and the same again behind each redirect
-- that is followed.
use Rattle.std.specs.Prelude.{◌≡◌, ◌≢◌, ℕ, ◌||◌, false, List, [], ◌++◌, Result, Err}
use Rattle.std.specs.List.{AllByRecursion}
use Rattle.resp_core.specs.Trees.{Tree}
use Rattle.resp_core.specs.Errors.{Refusal, by_cause}
use Rattle.resp_core.specs.declared.errors.redis_error.Cause.TheVariants.{Memory}
use Rattle.cluster_routing.specs.Address.{Address}
use Rattle.cluster_calls.specs.Calls.Plan.{Client}
use Rattle.cluster_calls.specs.Calls.Redirects.{Hop}
use Rattle.cluster_calls.specs.Calls.Transactions.{FollowsAttempts, attempt, exec_answers, last_attempt, replies_in, sent_answer}
use Rattle.cluster_calls.specs.Links.Events.{Event, Runs, log_of, exchanges_of, Agrees, lack_memory, StopsAtMemory, answered_moved}
use Rattle.cluster_calls.specs.Links.Faults.{LinkFault}
use Rattle.cluster_calls.specs.Links.Happened.{client_of}
use Rattle.cluster_calls.specs.Links.Lacking.{LacksWhere}
use Rattle.cluster_calls.specs.Links.Log.{Exchange}
use Rattle.cluster_calls.specs.Links.World.{World}

-- a link call with the requests of one attempt
abbrev pub IsAttempt : List (List (List ℕ)) → Event → Type 0
IsAttempt commands x = (hop : Hop) × (x.requests ≡ attempt hop commands)

-- the exchanges from this hop on, up to the attempt whose replies send the transaction nowhere
abbrev pub AreAttempts : Client → Hop → List (List (List ℕ)) → List Exchange → Type 0
AreAttempts client hop commands xs = FollowsAttempts client.links client.settings.budget hop commands xs

pub record AttemptsAnswered (old : World) (hop : Hop) (commands : List (List (List ℕ))) (events : List Event)
    (reply : Result Tree Refusal) : Type 0 where
  pub memory : lack_memory events ≡ false
  pub follows : (place : ℕ) → AreAttempts (client_of old) hop commands (exchanges_of place events)
  pub tells : (faults : Address → LinkFault) → Agrees faults events → (place : ℕ)
      → reply ≡ sent_answer (client_of old) faults commands (exchanges_of place events)

-- What the link calls of all attempts did, also where memory was refused: then they begin such a run, and
-- EXEC's reply to the last of them is not the answer.
pub record AttemptsMade (old new : World) (hop : Hop) (commands : List (List (List ℕ)))
    (reply : Result Tree Refusal) : Type 0 where
  pub events : List Event
  pub runs : Runs old.nodes new.nodes events
  pub attempts : AllByRecursion (IsAttempt commands) events
  pub stops : StopsAtMemory events
  pub logged : new.log ≡ old.log ++ log_of events
  pub begins : (place : ℕ) → (later : List Exchange)
      × AreAttempts (client_of old) hop commands (exchanges_of place events ++ later)
  pub flag : new.needs_refresh ≡ (old.needs_refresh || answered_moved events)
  pub entries : new.entries ≡ old.entries
  pub settings : new.settings ≡ old.settings
  pub picked : new.picked ≡ old.picked
  pub answered : reply ≢ Err (by_cause Memory) → AttemptsAnswered old hop commands events reply
  pub room : reply ≡ Err (by_cause Memory) → events ≢ [] → LacksWhere (client_of old).links events
      ((place : ℕ) → AreAttempts (client_of old) hop commands (exchanges_of place events))
  pub unanswered : reply ≡ Err (by_cause Memory) → (place : ℕ)
      → exec_answers (replies_in (last_attempt commands (exchanges_of place events))) ≡ false
