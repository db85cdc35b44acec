-- What `play` makes of a list of calls, and shows of each.
use Rattle.std.specs.Prelude.{◌≡◌, ◌≢◌, Bool, true, false, List, [], ◌++◌, map, Option, Result}
use Rattle.resp_core.specs.Errors.{Refusal}
use Rattle.cluster_routing.specs.Choice.{Strategy}
use Rattle.cluster_calls.specs.Calls.Answer.{Answer}
use Rattle.cluster_calls.specs.Calls.Call.{Call}
use Rattle.cluster_calls.specs.Links.Happened.{CallMade}
use Rattle.cluster_calls.specs.Links.Request.{Request}
use Rattle.cluster_calls.specs.Links.Run.{IsRun, with_log}
use Rattle.cluster_calls.specs.Links.World.{World}
use Rattle.cluster_calls.specs.OneServer.Headline.{PlayedCall}

-- what is shown of a call: what it answered, and its requests
pub record Shown : Type 0 where
  pub answer : Result Answer Refusal
  pub log : List Request

-- a call was made; its requests are moved out of the client, which keeps what was picked for it
pub record PlaysOne (strategy : Option Strategy) (old new : World) (call : Call)
    (played : Shown) : Type 0 where
  pub moved : new.log ≡ []
  pub made : CallMade strategy old (with_log new played.log new.picked) call played.answer

abbrev pub shown_of : PlayedCall → Shown
shown_of p = record { answer = p.answer; log = p.log }

-- The first of the calls were played, and are a run; what is shown of them stands behind what stood there.
-- They are all of the calls, unless memory was refused for what one of them was to show: then none was made
-- from that one on, and there is that one.
pub record Plays (strategy : Option Strategy) (old new : World) (calls : List Call)
    (before after : List Shown) (all : Bool) : Type 0 where
  pub run : List PlayedCall
  pub left : List Call
  pub is_run : IsRun strategy old new run
  pub first : calls ≡ map (λ (p : PlayedCall). p.call) run ++ left
  pub shown : after ≡ before ++ map shown_of run
  pub whole : all ≡ true → left ≡ []
  pub cut : all ≡ false → left ≢ []
