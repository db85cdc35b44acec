-- A call that has ended, before its picks are forgotten.
use Rattle.std.specs.Prelude.{◌≡◌, ◌≢◌, ℕ, false, [], Option, Result, Err}
use Rattle.resp_core.specs.Errors.{Refusal, by_cause}
use Rattle.resp_core.specs.declared.errors.redis_error.Cause.TheVariants.{Memory}
use Rattle.cluster_routing.specs.Choice.{Strategy}
use Rattle.cluster_calls.specs.Calls.Answer.{Answer}
use Rattle.cluster_calls.specs.Calls.Call.{Call}
use Rattle.cluster_calls.specs.Calls.OneReply.{has_reply}
use Rattle.cluster_calls.specs.Calls.Task.{task_of}
use Rattle.cluster_calls.specs.Links.Events.{exchanges_of}
use Rattle.cluster_calls.specs.Links.Happened.{Answered, Happened, client_of}
use Rattle.cluster_calls.specs.Links.Lacking.{MayLack}
use Rattle.cluster_calls.specs.Links.World.{World}

-- What happened, and what was answered unless memory was refused; where it lacked behind the first byte, and
-- that the one reply is not there then.
pub record CommandEnded (strategy : Option Strategy) (old new : World) (call : Call)
    (answer : Result Answer Refusal) : Type 0 where
  pub happened : Happened strategy old new call
  pub answered : answer ≢ Err (by_cause Memory) → Answered strategy old new call happened.events answer
  pub room : answer ≡ Err (by_cause Memory) → new.log ≢ []
      → MayLack (client_of old) new.picked call happened.events
  pub missing : answer ≡ Err (by_cause Memory) → (place : ℕ)
      → has_reply (task_of call) (exchanges_of place happened.events) ≡ false
