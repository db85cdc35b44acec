-- One call over honest nodes, from what its own contract says: where others use the keys too, and where no
-- one else does.
use Rattle.std.specs.Prelude.{◌≡◌, ℕ, Bool, true, List, [], ◌∷◌, Option, Result}
use Rattle.resp_core.specs.Trees.{Tree}
use Rattle.resp_core.specs.Errors.{Refusal}
use Rattle.cluster_routing.specs.Address.{Address}
use Rattle.cluster_routing.specs.Choice.{Strategy}
use Rattle.cluster_calls.specs.Links.Request.{Request}
use Rattle.cluster_calls.specs.Links.Log.{exchanges}
use Rattle.cluster_calls.specs.Links.World.{World}
use Rattle.cluster_calls.specs.Links.Events.{taken_of}
use Rattle.cluster_calls.specs.Links.Happened.{CallMade}
use Rattle.cluster_calls.specs.Calls.Call.{Call}
use Rattle.cluster_calls.specs.Calls.Plan.{Client}
use Rattle.cluster_calls.specs.Calls.Legal.{IsLegalCall}
use Rattle.cluster_calls.specs.Calls.Answer.{Answer, TellsNoMemory}
use Rattle.cluster_calls.specs.OneServer.AmongOthers.{CallTurns, HonestAmongOthers, AsOneServerAmongOthers}
use Rattle.cluster_calls.specs.OneServer.Keyspace.{Keyspace, Step}
use Rattle.cluster_calls.specs.OneServer.Meaning.{Meaning}
use Rattle.cluster_calls.specs.OneServer.Commands.{is_on_slots}
use Rattle.cluster_calls.specs.OneServer.Honest.{HonestRun}
use Rattle.cluster_calls.specs.OneServer.Headline.{PlayedCall, with_replies, command_logs, AsOneServer}

-- a run of this one call
abbrev pub run_of_one : World → Call → Result Answer Refusal → List PlayedCall
run_of_one new call answer = record { call = call; picks = new.picked; answer = answer; log = new.log } ∷ []

-- A call that was made, and was not refused for want of memory, is as good as its commands on one server,
-- whatever others do before it, while it is made, and behind it.
abbrev pub OneCallAmongOthers : Type 0
OneCallAmongOthers = (strategy : Option Strategy) (old new : World) (call : Call)
    (answer : Result Answer Refusal)
    (made : CallMade strategy old new call answer) → TellsNoMemory answer → is_on_slots call ≡ true
    → (meaning : Meaning) (keys keys' : Keyspace) (done : ℕ → Bool) (turns : CallTurns) (last : List Step)
    → HonestAmongOthers meaning keys done
    (with_replies (taken_of made.happened.events) (run_of_one new call answer)) (turns ∷ []) last keys'
    → AsOneServerAmongOthers meaning keys done
    (with_replies (taken_of made.happened.events) (run_of_one new call answer)) (turns ∷ []) last keys'

-- a call that was made, and was not refused for want of memory, is as good as its commands on one server
abbrev pub OneCallAsOnOneServer : Type 0
OneCallAsOnOneServer = (strategy : Option Strategy) (old new : World) (call : Call)
    (answer : Result Answer Refusal) (made : CallMade strategy old new call answer)
    → TellsNoMemory answer → is_on_slots call ≡ true
    → (meaning : Meaning) (keys keys' : Keyspace) (done : ℕ → Bool)
    → HonestRun meaning keys done
    (command_logs (with_replies (taken_of made.happened.events) (run_of_one new call answer))) keys'
    → AsOneServer meaning keys done
    (with_replies (taken_of made.happened.events) (run_of_one new call answer)) keys'

-- the log of a call is determined by its client, its picks and the replies
abbrev pub RepliesDetermineLogs : Type 0
RepliesDetermineLogs = (client : Client) (picks : List Address) (call : Call) (queues : Address → List Tree)
    (place : ℕ) (left right : List Request)
    → IsLegalCall client picks call (exchanges queues place left)
    → IsLegalCall client picks call (exchanges queues place right) → left ≡ right
