-- A command sent to several nodes, one after another, and what this makes of the whole call.
use Rattle.std.specs.Prelude.{◌≡◌, ◌≢◌, ℕ, ◌||◌, true, false, List, [], ◌∷◌, ◌++◌, map, Option, Some, None, Result, Ok, Err, Vec}
use Rattle.std.specs.List.{AllByRecursion}
use Rattle.std.specs.declared.alloc.Global.{Global}
use Rattle.resp_core.specs.Trees.{Tree}
use Rattle.resp_core.specs.Errors.{Refusal, by_cause}
use Rattle.resp_core.specs.View.{view}
use Rattle.resp_core.specs.declared.value.Value.{Value}
use Rattle.resp_core.specs.declared.errors.redis_error.Cause.TheVariants.{Memory}
use Rattle.resp_args.specs.Command.{Command}
use Rattle.cluster_routing.specs.Address.{Address}
use Rattle.cluster_routing.specs.AllNodes.{all_nodes, all_primaries}
use Rattle.cluster_routing.specs.Policies.{Outcome}
use Rattle.cluster_routing.specs.Routing.{Destination, to_all_nodes, to_all_primaries, destination}
use Rattle.cluster_routing.specs.Seen.{address}
use Rattle.cluster_routing.specs.SlotMap.{SlotEntries}
use Rattle.cluster_routing.specs.declared.address.NodeAddress.{NodeAddress}
use Rattle.cluster_client.specs.declared.fan_out.NodeDispatches.{NodeDispatches}
use Rattle.cluster_steps.specs.Dispatches.{dispatch_of}
use Rattle.cluster_calls.specs.Links.Request.{Request}
use Rattle.cluster_calls.specs.Links.World.{World, tree_result}
use Rattle.cluster_calls.specs.Links.Faults.{LinkFault}
use Rattle.cluster_calls.specs.Links.Lacking.{ends_lacking}
use Rattle.cluster_calls.specs.Links.Events.{Event, Runs, log_of, exchanges_of, Agrees, lack_memory, StopsAtMemory, answered_moved}
use Rattle.cluster_calls.specs.Links.Chains.{IsSingle}
use Rattle.cluster_calls.specs.Calls.Parts.{Part, part_to, at_node}
use Rattle.cluster_calls.specs.Calls.Plan.{Dispatch}
use Rattle.cluster_calls.specs.Calls.Legal.{direct}
use Rattle.cluster_calls.specs.Calls.Replies.{unless_error, reply_error, outcomes, policy_in, reply_by_outcomes}

-- ---- the nodes

-- the nodes that a destination names, ascending; none where it is not that of several nodes
abbrev pub nodes_named : SlotEntries → Option Destination → Option (List Address)
nodes_named entries (Some (to_all_nodes policy)) = Some (all_nodes entries)
nodes_named entries (Some (to_all_primaries policy)) = Some (all_primaries entries)
nodes_named entries _ = None

-- a part for each of these nodes
abbrev pub parts_to_nodes : List (List ℕ) → List Address → List Part
parts_to_nodes args nodes = map (λ node. part_to args (at_node node)) nodes

-- what the code prepares, as the dispatches of the call
abbrev pub listed_by : Result NodeDispatches Refusal → Result (List Dispatch) Refusal
listed_by (Ok n) = Ok (map dispatch_of n.list.items)
listed_by (Err refusal) = Err refusal

-- ---- one node

-- what a reply is as a node's outcome: a tree without an error, or a refusal
abbrev pub outcome_in : Result Tree Refusal → Result Tree Refusal
outcome_in (Ok tree) = unless_error tree (reply_error tree)
outcome_in (Err refusal) = Err refusal

-- a node's outcome, by its reply as the code has it
abbrev pub outcome_of_reply : NodeAddress × Result Value Refusal → Outcome
outcome_of_reply r = (address r.0, outcome_in (tree_result view r.1))

-- what the code has of one node, and of all
abbrev pub one_outcome : Result (NodeAddress × Result Value Refusal) Refusal → Result (List Outcome) Refusal
one_outcome (Ok r) = Ok (outcome_of_reply r ∷ [])
one_outcome (Err refusal) = Err refusal

abbrev pub all_outcomes : Result (Vec (NodeAddress × Result Value Refusal) Global) Refusal
    → Result (List Outcome) Refusal
all_outcomes (Ok rs) = Ok (map outcome_of_reply rs.items)
all_outcomes (Err refusal) = Err refusal

-- ---- the run of the nodes

-- Each node was sent its request once, in order, and the outcomes are those of its replies and of the links'
-- faults.
pub record NodesAnswered (ds : List Dispatch) (events : List Event)
    (result : Result (List Outcome) Refusal) : Type 0 where
  pub memory : lack_memory events ≡ false
  pub sent : log_of events ≡ map direct ds
  pub tells : (faults : Address → LinkFault) → Agrees faults events → (place : ℕ)
      → result ≡ Ok (outcomes faults (exchanges_of place events))

-- What the link calls did, also where memory was refused: then their requests are the first of these.
pub record NodesAsked (old new : World) (ds : List Dispatch)
    (result : Result (List Outcome) Refusal) : Type 0 where
  pub events : List Event
  pub runs : Runs old.nodes new.nodes events
  pub stops : StopsAtMemory events
  pub logged : new.log ≡ old.log ++ log_of events
  pub single : AllByRecursion IsSingle events
  pub begins : (later : List Request) × (log_of events ++ later ≡ map direct ds)
  pub flag : new.needs_refresh ≡ (old.needs_refresh || answered_moved events)
  pub entries : new.entries ≡ old.entries
  pub settings : new.settings ≡ old.settings
  pub picked : new.picked ≡ old.picked
  pub answered : result ≢ Err (by_cause Memory) → NodesAnswered ds events result
  pub room : result ≡ Err (by_cause Memory) → events ≢ [] → ends_lacking events ≡ true

-- ---- the whole call's reply

-- The reply is made of the outcomes by the command's policy. Memory may be refused when all nodes were asked.
abbrev pub IsMadeOfOutcomes : Command → Result (List Outcome) Refusal → Result Tree Refusal → Type 0
IsMadeOfOutcomes command (Ok os) reply = reply ≢ Err (by_cause Memory)
    → reply ≡ reply_by_outcomes (policy_in (destination command.args [])) os
IsMadeOfOutcomes command (Err refusal) reply = reply ≡ Err refusal
