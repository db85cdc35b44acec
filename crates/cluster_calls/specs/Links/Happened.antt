-- What one call did: its link calls, and what follows from them for its log, its answer, the map, and each
-- node.
use Rattle.std.specs.Prelude.{◌≡◌, ◌≢◌, ℕ, ◌||◌, Bool, true, false, List, [], ◌++◌, Option, Result, Err}
use Rattle.resp_core.specs.Trees.{Tree}
use Rattle.resp_core.specs.Errors.{Refusal, by_cause}
use Rattle.resp_core.specs.declared.errors.redis_error.Cause.TheVariants.{Memory}
use Rattle.cluster_routing.specs.Address.{Address}
use Rattle.cluster_routing.specs.Choice.{Strategy}
use Rattle.cluster_calls.specs.Links.Request.{Request, requests_to}
use Rattle.cluster_calls.specs.Links.Log.{Exchange, exchanges, replies}
use Rattle.cluster_calls.specs.Links.World.{World, open_links}
use Rattle.cluster_calls.specs.Calls.Call.{Call, Refresh, Each}
use Rattle.cluster_calls.specs.Calls.Task.{task_of}
use Rattle.cluster_calls.specs.Calls.Plan.{Client}
use Rattle.cluster_calls.specs.Calls.Picks.{ArePicks}
use Rattle.cluster_calls.specs.Calls.Legal.{IsLegalCall}
use Rattle.cluster_calls.specs.Links.Faults.{LinkFault}
use Rattle.cluster_calls.specs.Calls.Answer.{Answer, answer_of, IsAnswerOf, TellsNoMemory}
use Rattle.cluster_calls.specs.Calls.After.{map_after, flag_after}
use Rattle.cluster_calls.specs.Links.Events.{Event, Runs, log_of, taken_of, calls_of, exchanges_of, Agrees, lack_memory, StopsAtMemory, answered_moved}
use Rattle.cluster_calls.specs.Links.Lacking.{MayLack}
use Rattle.cluster_calls.specs.Links.Nodes.{NodesMade, link_calls}

abbrev pub client_of : World → Client
client_of world = record
    { settings = world.settings; entries = world.entries; links = open_links world.nodes }

abbrev pub is_refresh : Call → Bool
is_refresh (Refresh node) = true
is_refresh _ = false

abbrev pub is_each : Call → Bool
is_each (Each entries) = true
is_each _ = false

-- ---- always

-- these exchanges begin a legal log of the call
pub record BeginsLegal (client : Client) (picks : List Address) (call : Call)
    (xs : List Exchange) : Type 0 where
  pub later : List Exchange
  pub legal : IsLegalCall client picks call (xs ++ later)

-- A call's link calls, also where memory was refused: the log has their requests, and begins a legal one. The
-- call goes on to no other link behind one that lacked memory, unless it tells of each position.
pub record Happened (strategy : Option Strategy) (old new : World) (call : Call) : Type 0 where
  pub events : List Event
  pub runs : Runs old.nodes new.nodes events
  pub stops : is_each call ≡ false → StopsAtMemory events
  pub logged : new.log ≡ log_of events
  pub calls : (node : Address)
      → calls_of events node ≡ link_calls (task_of call) (requests_to node (log_of events))
  pub picks : new.log ≢ [] → ArePicks strategy (client_of old) call new.picked
  pub begins : new.log ≢ [] → (place : ℕ)
      → BeginsLegal (client_of old) new.picked call (exchanges_of place events)
  pub settings : new.settings ≡ old.settings
  pub map_stays : is_refresh call ≡ false → new.entries ≡ old.entries
  pub flag : is_refresh call ≡ false → new.needs_refresh ≡ (old.needs_refresh || answered_moved events)

-- what happened is a call that lacks memory no earlier than it must
abbrev pub LacksLate : Option Strategy → World → World → Call → Type 0
LacksLate strategy old new call = (happened : Happened strategy old new call)
    × MayLack (client_of old) new.picked call happened.events

-- ---- unless memory was refused

-- the log is legal, and the answer, the map and the flag are what its replies make, wherever the call stands
-- in a run
pub record Answered (strategy : Option Strategy) (old new : World) (call : Call) (events : List Event)
    (answer : Result Answer Refusal) : Type 0 where
  pub memory : is_each call ≡ false → lack_memory events ≡ false
  pub logged : new.log ≡ log_of events
  pub picks : ArePicks strategy (client_of old) call new.picked
  pub legal : (place : ℕ) → IsLegalCall (client_of old) new.picked call (exchanges_of place events)
  pub answered : (faults : Address → LinkFault) → Agrees faults events → (place : ℕ)
      → IsAnswerOf (client_of old) new.picked faults call (exchanges_of place events) answer
  pub entries : (place : ℕ) → new.entries ≡ map_after old.entries call (exchanges_of place events)
  pub flag : (place : ℕ) → new.needs_refresh ≡ flag_after old.needs_refresh call (exchanges_of place events)

-- where memory was refused a refresh leaves the map and the flag
pub record LeavesMap (old new : World) : Type 0 where
  pub entries : new.entries ≡ old.entries
  pub flag : new.needs_refresh ≡ old.needs_refresh

-- ---- as a reader sees it: the log and what was taken from each node

abbrev pub log_with_replies : (Address → List Tree) → List Request → List Exchange
log_with_replies taken log = exchanges (replies taken) 0 log

pub record Played (old new : World) (call : Call) (taken : Address → List Tree)
    (answer : Result Answer Refusal) : Type 0 where
  pub faults : Address → LinkFault
  pub legal : IsLegalCall (client_of old) new.picked call (log_with_replies taken new.log)
  pub answered : answer ≡ answer_of (client_of old) new.picked faults call (log_with_replies taken new.log)
  pub made : NodesMade old.nodes new.nodes (λ node. link_calls (task_of call) (requests_to node new.log))
      (log_with_replies taken new.log) taken faults
  pub entries : new.entries ≡ map_after old.entries call (log_with_replies taken new.log)
  pub flag : new.needs_refresh ≡ flag_after old.needs_refresh call (log_with_replies taken new.log)

-- ---- a call

-- No picks are shown where memory was refused before a request was written down. Behind the first byte memory
-- lacks only in a link call, which is the last, for a request that a redirect sends on, or when nothing more
-- was to be sent.
pub record CallMade (strategy : Option Strategy) (old new : World) (call : Call)
    (answer : Result Answer Refusal) : Type 0 where
  pub happened : Happened strategy old new call
  pub answered : answer ≢ Err (by_cause Memory) → Answered strategy old new call happened.events answer
  pub played : TellsNoMemory answer → Played old new call (taken_of happened.events) answer
  pub memory : answer ≡ Err (by_cause Memory) → is_refresh call ≡ true → LeavesMap old new
  pub unpicked : answer ≡ Err (by_cause Memory) → new.log ≡ [] → new.picked ≡ []
  pub room : answer ≡ Err (by_cause Memory) → new.log ≢ []
      → MayLack (client_of old) new.picked call happened.events
