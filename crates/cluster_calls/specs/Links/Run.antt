-- Runs of calls, as `play` makes them: the calls one after another, and what the whole run comes to.
use Rattle.std.specs.Prelude.{◌≡◌, List, [], ◌∷◌, ◌++◌, map, Option}
use Rattle.std.specs.List.{AllByRecursion}
use Rattle.resp_core.specs.Trees.{Tree}
use Rattle.cluster_routing.specs.Address.{Address}
use Rattle.cluster_routing.specs.Choice.{Strategy}
use Rattle.cluster_routing.specs.Lists.{concat}
use Rattle.cluster_calls.specs.Links.Request.{Request, requests_to}
use Rattle.cluster_calls.specs.Links.World.{World}
use Rattle.cluster_calls.specs.Calls.Answer.{TellsNoMemory}
use Rattle.cluster_calls.specs.Calls.Task.{task_of}
use Rattle.cluster_calls.specs.Links.Faults.{LinkFault}
use Rattle.cluster_calls.specs.Links.Events.{Event, taken_of}
use Rattle.cluster_calls.specs.Links.Nodes.{NodesMade, link_calls}
use Rattle.cluster_calls.specs.Links.Happened.{client_of, CallMade, log_with_replies}
use Rattle.cluster_calls.specs.OneServer.Headline.{PlayedCall, with_replies, IsPlayedFrom}

-- the world with this log and these picks
abbrev pub with_log : World → List Request → List Address → World
with_log world log picked = record world { log = log; picked = picked }

-- behind a call of a run its requests are moved out of the client, and its picks stay
abbrev pub IsMovedOut : World → PlayedCall → Type 0
IsMovedOut world t = (world.log ≡ []) × (world.picked ≡ t.picks)

-- the calls one after another, with their link calls
abbrev pub CallsMade : Option Strategy → World → World → List PlayedCall → List Event → Type 0
CallsMade strategy old new [] events = (new ≡ old) × (events ≡ [])
CallsMade strategy old new (t ∷ ts) events =
    (mid : World) × (later : List Event)
    × (made : CallMade strategy old (with_log mid t.log t.picks) t.call t.answer)
    × (events ≡ made.happened.events ++ later) × CallsMade strategy mid new ts later × IsMovedOut mid t

-- the requests of a run, and its link calls to a node
abbrev pub whole_log : List PlayedCall → List Request
whole_log ts = concat (map (λ (t : PlayedCall). t.log) ts)

abbrev pub link_calls_to : Address → PlayedCall → List (List Request)
link_calls_to node t = link_calls (task_of t.call) (requests_to node t.log)

abbrev pub run_calls : List PlayedCall → Address → List (List Request)
run_calls ts node = concat (map (link_calls_to node) ts)

-- no call was refused for want of memory, and no position of a pipeline
abbrev pub HadMemory : List PlayedCall → Type 0
HadMemory ts = AllByRecursion (λ (t : PlayedCall). TellsNoMemory t.answer) ts

-- the run as a reader sees it: every call is legal and answers what its replies make, and each node was sent
-- its requests
pub record RunPlayed (strategy : Option Strategy) (old new : World) (ts : List PlayedCall)
    (taken : Address → List Tree) : Type 0 where
  pub faults : Address → LinkFault
  pub played : IsPlayedFrom strategy (client_of old) faults (with_replies taken ts)
  pub made : NodesMade old.nodes new.nodes (run_calls ts) (log_with_replies taken (whole_log ts)) taken faults

pub record IsRun (strategy : Option Strategy) (old new : World) (ts : List PlayedCall) : Type 0 where
  pub events : List Event
  pub calls : CallsMade strategy old new ts events
  pub played : HadMemory ts → RunPlayed strategy old new ts (taken_of events)
