-- The parts of a call in order of first appearance, or why it has none: the checks before any node is looked
-- for. Source: the Redis Cluster specification; documentation of the crate `redis`.
use Rattle.std.specs.Prelude.{ℕ, suc, ◌+◌, ◌/◌, ◌%◌, ◌==◌, Bool, true, false, not, ◌&&◌, if◌then◌else◌, List, [], ◌∷◌, map, length, take, drop, Option, Some, None, option_map, option_and_then, Result, Ok, Err, codes}
use Rattle.std.specs.List.{list_any}
use Rattle.resp_core.specs.Errors.{Refusal, by_cause, at_position}
use Rattle.resp_core.specs.declared.errors.redis_error.Cause.TheVariants.{NoResponse, NoRoute, CursorInSplit, BrokenTuples, BadOrder, NoNode}
use Rattle.resp_args.specs.Command.{Command}
use Rattle.resp_args.specs.Packed.{sent}
use Rattle.resp_args.specs.declared.cmd.Arg.{Arg}
use Rattle.resp_args.specs.declared.cmd.Arg.TheVariants.{Simple, Cursor}
use Rattle.cluster_routing.specs.Address.{Address}
use Rattle.cluster_routing.specs.AllNodes.{all_nodes, all_primaries}
use Rattle.cluster_routing.specs.Command.{Args, all_bytes, is_one_of, place_of}
use Rattle.cluster_routing.specs.Routing.{Destination, to_any_node, to_route, to_all_nodes, to_all_primaries, route_to, role_of, name_of, destination}
use Rattle.cluster_routing.specs.SlotMap.{SlotEntries}
use Rattle.cluster_routing.specs.declared.route.Route.{Route}
use Rattle.cluster_routing.specs.declared.route.SlotAddr.{SlotAddr}
use Rattle.cluster_routing.specs.declared.route.SlotAddr.TheVariants.{Master}
use Rattle.cluster_routing.specs.Lists.{is_permutation}
use Rattle.cluster_routing.specs.Split.{Split, split_of, has_split_word, part_slots, sub}
use Rattle.stream_commands.specs.Commands as commands
use Rattle.stream_commands.specs.Settings.{ReadSettings}
use Rattle.cluster_calls.specs.Calls.Call.{Entry, Stream}
use Rattle.cluster_calls.specs.Calls.Reads.{stream_slots, streams_at}
use Rattle.cluster_calls.specs.Calls.Task.{stream_keys, stream_ids, are_of_one_slot}

-- where a part goes first: to its slot, to the node with this number among all, or to a node
pub data Target : Type 0 where
  at_slot : Route → Target
  at_number : ℕ → Target
  at_node : Address → Target

pub record Part : Type 0 where
  pub target : Target
  pub args : List (List ℕ)

-- arguments as the part that goes there
abbrev pub part_to : List (List ℕ) → Target → Part
part_to args target = record { target = target; args = args }

abbrev pub result_then : {A B E : Type 0} → Result A E → (A → Result B E) → Result B E
result_then (Ok a) f = f a
result_then (Err e) f = Err e

-- a result, unless something was refused before
abbrev pub unless : {A : Type 0} → Option Refusal → Result A Refusal → Result A Refusal
unless None result = result
unless (Some refusal) result = Err refusal

-- ---- one command

abbrev pub is_gap : Arg (List ℕ) → Bool
is_gap (Simple bytes) = false
is_gap Cursor = true

abbrev pub role_by : Option (List ℕ) → List (List ℕ) → SlotAddr
role_by None read_only = Master
role_by (Some name) read_only = role_of name read_only

-- the parts of a split command; each goes to the slot of its keys
abbrev pub slot_part : SlotAddr → Split → ℕ → Part
slot_part role s slot = part_to (sub s slot) (at_slot (route_to role slot))

abbrev pub split_parts : SlotAddr → Option Split → Result (List Part) Refusal
split_parts role None = Err (by_cause BrokenTuples)
split_parts role (Some s) = Ok (map (slot_part role s) (part_slots s.tuples))

-- every other command is its own one part
abbrev pub only_part : List (List ℕ) → ℕ → Option Destination → Result (List Part) Refusal
only_part args number (Some (to_route route)) = Ok (part_to args (at_slot route) ∷ [])
only_part args number (Some to_any_node) = Ok (part_to args (at_number number) ∷ [])
only_part args number _ = Err (by_cause NoRoute)

-- the parts of a command in order of first appearance, or the check that is not met
abbrev pub parts_of : List (List ℕ) → Command → ℕ → Result (List Part) Refusal
parts_of read_only command number =
    if command.no_response then Err (by_cause NoResponse)
    else if has_split_word command.args
    then (if list_any is_gap command.args then Err (by_cause CursorInSplit)
    else split_parts (role_by (name_of command.args) read_only) (split_of (sent command)))
    else only_part (sent command) number (destination command.args read_only)

-- an order has each part's number once
abbrev pub fits_order : Option (List ℕ) → ℕ → Bool
fits_order None n = true
fits_order (Some order) n = is_permutation n order

abbrev pub if_ordered : Option (List ℕ) → List Part → Result (List Part) Refusal
if_ordered order parts = if fits_order order (length parts) then Ok parts else Err (by_cause BadOrder)

-- ---- pipelines: each command whole, to the primary of its one slot

abbrev pub if_at_slot : List (List ℕ) → Target → Option Part
if_at_slot args (at_slot route) = Some (part_to args (at_slot (route_to Master route.slot)))
if_at_slot args _ = None

abbrev pub whole_part : List (List ℕ) → Result (List Part) Refusal → Option Part
whole_part args (Ok (part ∷ [])) = if_at_slot args part.target
whole_part args _ = None

-- Of a read the keys are the first half of what stands behind the word, where that is bytes and of an even
-- number. Where it is not the node says what is wrong.
abbrev pub first_half : List (List ℕ) → List (List ℕ)
first_half args = if length args % 2 == 0 then take (length args / 2) args else []

abbrev pub keys_behind : Args → Option ℕ → Option (List (List ℕ))
keys_behind args place = option_and_then (λ n. option_map first_half (all_bytes (drop (n + 1) args))) place

abbrev pub have_several_slots : Option (List (List ℕ)) → Bool
have_several_slots None = false
have_several_slots (Some keys) = not (are_of_one_slot keys)

abbrev pub is_read_name : Option (List ℕ) → Bool
is_read_name None = false
is_read_name (Some name) = is_one_of (codes "XREAD" ∷ []) name

-- Whether a command is an XREAD whose keys have several slots: of what stands behind the first STREAMS, where
-- that is an even number of byte arguments, the first half.
abbrev pub reads_several_slots : Args → Bool
reads_several_slots args = is_read_name (name_of args)
    && have_several_slots (keys_behind args (place_of (codes "STREAMS") args))

-- a read of several slots has no part
abbrev pub if_one_slot : Bool → Option Part → Option Part
if_one_slot several part = if several then None else part

abbrev pub with_whole : ℕ → Option Part → Result (List Part) Refusal → Result (List Part) Refusal
with_whole position None later = Err (at_position position)
with_whole position (Some part) (Ok parts) = Ok (part ∷ parts)
with_whole position (Some part) (Err refusal) = Err refusal

abbrev pub pipeline_parts : ℕ → List Entry → Result (List Part) Refusal
pipeline_parts position [] = Ok []
pipeline_parts position (e ∷ es) = with_whole position
    (if_one_slot (reads_several_slots e.command.args) (whole_part (sent e.command) (parts_of [] e.command 0)))
    (pipeline_parts (suc position) es)

-- ---- several nodes, ascending

abbrev pub to_nodes : List (List ℕ) → List Address → Result (List Part) Refusal
to_nodes args [] = Err (by_cause NoNode)
to_nodes args (a ∷ as') = Ok (map (λ node. part_to args (at_node node)) (a ∷ as'))

abbrev pub node_parts : SlotEntries → List (List ℕ) → Option Destination → Result (List Part) Refusal
node_parts entries args (Some (to_all_nodes policy)) = to_nodes args (all_nodes entries)
node_parts entries args (Some (to_all_primaries policy)) = to_nodes args (all_primaries entries)
node_parts entries args _ = Err (by_cause NoRoute)

-- ---- one node: the command as it is, wherever its keys are

abbrev pub node_part : Address → Command → Result (List Part) Refusal
node_part node command = if command.no_response then Err (by_cause NoResponse)
    else Ok (part_to (sent command) (at_node node) ∷ [])

-- ---- reads of streams: a read for each slot, of its streams in the call's order

abbrev pub read_part : SlotAddr → ReadSettings → List Stream → ℕ → Part
read_part role options streams slot =
    part_to (commands.xread options (stream_keys (streams_at slot streams))
    (stream_ids (streams_at slot streams))) (at_slot (route_to role slot))

-- the parts of a read of streams, one for each slot of their keys, as these first appear
abbrev pub read_parts : List (List ℕ) → ReadSettings → List Stream → List Part
read_parts read_only options streams = map (read_part (role_of (codes "XREAD") read_only) options streams)
    (stream_slots streams)
