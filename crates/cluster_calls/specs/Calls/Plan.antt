-- Where the parts of a call go first: the checks of nodes and links, part by part, before the first byte.
use Rattle.std.specs.Prelude.{ℕ, ◌%◌, Bool, true, false, if◌then◌else◌, List, [], ◌∷◌, length, filter_map, slice_get, Option, Some, None, option_map, option_and_then, Result, Ok, Err}
use Rattle.resp_core.specs.Errors.{Refusal, by_cause}
use Rattle.resp_core.specs.declared.errors.redis_error.Cause.TheVariants.{NoNode, NoLink}
use Rattle.cluster_routing.specs.Address.{Address}
use Rattle.cluster_routing.specs.AllNodes.{all_nodes}
use Rattle.cluster_routing.specs.Candidates.{Candidates, any_node}
use Rattle.cluster_routing.specs.SlotMap.{SlotEntries, Nodes, nodes_at}
use Rattle.cluster_routing.specs.declared.route.Route.{Route}
use Rattle.cluster_routing.specs.declared.route.SlotAddr.{SlotAddr}
use Rattle.cluster_routing.specs.declared.route.SlotAddr.TheVariants.{Master}
use Rattle.cluster_calls.specs.Links.World.{Settings, is_linked}
use Rattle.cluster_calls.specs.Calls.Call.{Call}
use Rattle.cluster_calls.specs.Calls.Task.{Task, one_command, early_refusal, task_of}
use Rattle.cluster_calls.specs.Calls.Parts.{Target, at_slot, at_number, at_node, Part, result_then, unless}
use Rattle.cluster_calls.specs.Calls.TaskParts.{task_parts}

-- what a client goes by: its settings, its slot map and its open links
pub record Client : Type 0 where
  pub settings : Settings
  pub entries : SlotEntries
  pub links : List Address

-- a part's arguments and the node that it goes to first
pub record Dispatch : Type 0 where
  pub node : Address
  pub args : List (List ℕ)

-- ---- candidates and picks

-- every request but a write, which goes to the primary
abbrev pub is_read : SlotAddr → Bool
is_read Master = false
is_read _ = true

abbrev pub some_candidates : ℕ → Address → List Address → Option Candidates
some_candidates slot primary [] = None
some_candidates slot primary (r ∷ rs) = Some (any_node slot (record { primary = primary; replicas = r ∷ rs }))

-- a strategy is asked for a read of a slot that has replicas, about all of its nodes
abbrev pub read_candidates : Route → Nodes → Option Candidates
read_candidates route nodes = if is_read route.slot_addr
    then some_candidates route.slot nodes.primary nodes.replicas else None

abbrev pub target_candidates : SlotEntries → Target → Option Candidates
target_candidates entries (at_slot route) = option_and_then (read_candidates route)
    (nodes_at route.slot entries)
target_candidates entries _ = None

-- a node, and the picks that are left for later parts
pub record First : Type 0 where
  pub node : Address
  pub picks : List Address

-- the next pick where a strategy is asked and there is one, else the primary
abbrev pub first_by : Option Candidates → Address → List Address → First
first_by None primary picks = record { node = primary; picks = picks }
first_by (Some candidates) primary [] = record { node = primary; picks = [] }
first_by (Some candidates) primary (pick ∷ picks) = record { node = pick; picks = picks }

abbrev pub by_number : {A : Type 0} → ℕ → List A → Option A
by_number n xs = slice_get xs (n % length xs)

-- where a target's part goes first; none where no node serves it
abbrev pub first_of : SlotEntries → List Address → Target → Option First
first_of entries picks (at_slot route) = option_map
    (λ (nodes : Nodes). first_by (read_candidates route nodes) nodes.primary picks)
    (nodes_at route.slot entries)
first_of entries picks (at_number n) = option_map (λ node. record { node = node; picks = picks })
    (by_number n (all_nodes entries))
first_of entries picks (at_node node) = Some (record { node = node; picks = picks })

-- ---- dispatches

abbrev pub with_first : Dispatch → Result (List Dispatch) Refusal → Result (List Dispatch) Refusal
with_first d (Ok ds) = Ok (d ∷ ds)
with_first d (Err refusal) = Err refusal

abbrev pub dispatch_one : List Address → Part → Option First → (List Address → Result (List Dispatch) Refusal)
    → Result (List Dispatch) Refusal
dispatch_one links part None later = Err (by_cause NoNode)
dispatch_one links part (Some first) later =
    if is_linked links first.node
    then with_first (record { node = first.node; args = part.args }) (later first.picks)
    else Err (by_cause NoLink)

-- the parts with their nodes, or why the first that has none has none
abbrev pub dispatches : Client → List Address → List Part → Result (List Dispatch) Refusal
dispatches client picks [] = Ok []
dispatches client picks (part ∷ parts) =
    dispatch_one client.links part (first_of client.entries picks part.target)
    (λ left. dispatches client left parts)

-- ---- plans

-- the parts of a call, or the first check that is not met before any node is looked for
abbrev pub call_parts : Client → Call → Result (List Part) Refusal
call_parts client call = unless (early_refusal call)
    (task_parts client.settings.read_only client.entries (task_of call))

abbrev pub order_of : Task → Option (List ℕ)
order_of (one_command command number order) = order
order_of _ = None

-- what belongs to the parts, in the order of sending
abbrev pub in_order : {A : Type 0} → Option (List ℕ) → List A → List A
in_order None items = items
in_order (Some order) items = filter_map (slice_get items) order

-- the dispatches of a call in the order of sending, or why it is refused before a byte is sent
abbrev pub plan : Client → List Address → Call → Result (List Dispatch) Refusal
plan client picks call =
    result_then (call_parts client call)
    (λ parts. result_then (dispatches client picks parts)
    (λ ds. Ok (in_order (order_of (task_of call)) ds)))
