-- A call whose one reply is read as a type: the call, and the conversion of its reply.
use Rattle.std.specs.Prelude.{◌≡◌, ◌⊎◌, ℕ, false, List, Option, Some, None, Result, Ok, Err}
use Rattle.resp_core.specs.Trees.{Tree}
use Rattle.resp_core.specs.Errors.{Refusal, by_cause}
use Rattle.resp_core.specs.declared.errors.redis_error.Cause.TheVariants.{Memory}
use Rattle.cluster_routing.specs.Choice.{Strategy}
use Rattle.cluster_routing.specs.Policies.{bad_reply}
use Rattle.cluster_calls.specs.Links.World.{World}
use Rattle.cluster_calls.specs.Calls.Call.{Call}
use Rattle.cluster_calls.specs.Calls.Answer.{Answer, Refreshed, Value, Told}
use Rattle.cluster_calls.specs.Calls.OneReply.{has_reply}
use Rattle.cluster_calls.specs.Calls.Task.{task_of}
use Rattle.cluster_calls.specs.Links.Events.{exchanges_of}
use Rattle.cluster_calls.specs.Links.Happened.{CallMade}

-- a reply, or why there is none, as an answer
abbrev pub value_answer : Result Tree Refusal → Result Answer Refusal
value_answer (Ok tree) = Ok (Value tree)
value_answer (Err refusal) = Err refusal

-- the outcomes of a pipeline's positions, or why nothing was sent, as an answer
abbrev pub told_answer : Result (List (Result Tree Refusal)) Refusal → Result Answer Refusal
told_answer (Ok outcomes) = Ok (Told outcomes)
told_answer (Err refusal) = Err refusal

-- that a refresh was accepted, or why it was not, as an answer
abbrev pub refresh_answer : {A : Type 0} → Result A Refusal → Result Answer Refusal
refresh_answer (Ok a) = Ok Refreshed
refresh_answer (Err refusal) = Err refusal

-- The result is the reply's conversion, refused where it has none, and otherwise for the conversion's own want
-- of memory alone; a refused call's refusal stays.
abbrev pub ConvertsTo : {T M : Type 0} → (T → M) → (Tree → Option M) → Result Tree Refusal → Result T Refusal
    → Type 0
ConvertsTo meaning convert (Ok tree) (Ok value) = convert tree ≡ Some (meaning value)
ConvertsTo meaning convert (Ok tree) (Err refusal) = ((convert tree ≡ None) × (refusal ≡ bad_reply))
    ⊎ (refusal ≡ by_cause Memory)
ConvertsTo meaning convert (Err refusal) (Ok value) = ⊥
ConvertsTo meaning convert (Err refusal) (Err refusal') = refusal' ≡ refusal

-- The call was made for this reply or refusal. Where it says that the call itself lacked memory, the one reply
-- that its answer is made of is not there.
pub record ReplyMade (strategy : Option Strategy) (old new : World) (call : Call)
    (reply : Result Tree Refusal) : Type 0 where
  pub made : CallMade strategy old new call (value_answer reply)
  pub missing : reply ≡ Err (by_cause Memory) → (place : ℕ)
      → has_reply (task_of call) (exchanges_of place made.happened.events) ≡ false

-- The call was made for some reply or refusal, and the result is its conversion. So where the one reply is
-- there, it is converted, and no other want of memory is told than that of the conversion.
pub record ValueMade {T M : Type 0} (strategy : Option Strategy) (old new : World) (call : Call)
    (meaning : T → M) (convert : Tree → Option M) (result : Result T Refusal) : Type 0 where
  pub reply : Result Tree Refusal
  pub made : ReplyMade strategy old new call reply
  pub converted : ConvertsTo meaning convert reply result
