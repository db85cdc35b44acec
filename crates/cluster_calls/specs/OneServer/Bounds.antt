-- How many requests calls make, where they are answered, refused, or stopped for want of memory: from what
-- `play` and each call promise.
use Rattle.std.specs.Prelude.{◌≤◌, ℕ, Bool, List, [], ◌∷◌, length, Option, Result, Ok, Err, ⊤}
use Rattle.resp_core.specs.Errors.{Refusal}
use Rattle.cluster_routing.specs.Address.{Address}
use Rattle.cluster_routing.specs.Choice.{Strategy}
use Rattle.cluster_calls.specs.Links.Events.{Event}
use Rattle.cluster_calls.specs.Links.Happened.{client_of, CallMade}
use Rattle.cluster_calls.specs.Links.Play.{Plays, Shown}
use Rattle.cluster_calls.specs.Links.Run.{CallsMade}
use Rattle.cluster_calls.specs.Links.World.{World}
use Rattle.cluster_calls.specs.Calls.Answer.{Answer}
use Rattle.cluster_calls.specs.Calls.Call.{Call}
use Rattle.cluster_calls.specs.Calls.Plan.{Client, Dispatch, plan}
use Rattle.cluster_calls.specs.Calls.Task.{Task, task_of}
use Rattle.cluster_calls.specs.OneServer.Headline.{PlayedCall}
use Rattle.cluster_calls.specs.OneServer.Laws.{request_bound}

-- of a call that is refused before sending none
abbrev pub planned_bound : Client → Task → Result (List Dispatch) Refusal → ℕ
planned_bound client task (Ok ds) = request_bound client.settings.budget (length ds) task
planned_bound client task (Err refusal) = 0

abbrev pub call_bound : Client → List Address → Call → ℕ
call_bound client picks call = planned_bound client (task_of call) (plan client picks call)

-- one call of a client, however it ended: one that a check refuses before sending makes no request
abbrev pub CallsAreBounded : Type 0
CallsAreBounded = (strategy : Option Strategy) (old new : World) (call : Call)
    (answer : Result Answer Refusal) → CallMade strategy old new call answer
    → length new.log ≤ call_bound (client_of old) new.picked call

-- each call of a run, from the client where the ones before left it
abbrev pub AreBounded : (strategy : Option Strategy) (old new : World) (ts : List PlayedCall)
    (events : List Event) → CallsMade strategy old new ts events → Type 0
AreBounded strategy old new [] events made = ⊤
AreBounded strategy old new (t ∷ ts) events made = (length t.log ≤ call_bound (client_of old) t.picks t.call)
    × AreBounded strategy made.0 new ts made.1 made.4

-- the calls that `play` made
abbrev pub PlaysAreBounded : Type 0
PlaysAreBounded = (strategy : Option Strategy) (old new : World) (calls : List Call)
    (before after : List Shown) (all : Bool) (p : Plays strategy old new calls before after all)
    → AreBounded strategy old new p.run p.is_run.events p.is_run.calls
