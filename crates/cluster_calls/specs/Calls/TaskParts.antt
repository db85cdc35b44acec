-- The parts of a task, or the first check that is not met before any node is looked for.
use Rattle.std.specs.Prelude.{ℕ, if◌then◌else◌, List, [], ◌∷◌, Result, Ok, Err}
use Rattle.resp_core.specs.Errors.{Refusal, by_cause}
use Rattle.resp_core.specs.declared.errors.redis_error.Cause.TheVariants.{NoResponse}
use Rattle.resp_args.specs.Packed.{sent}
use Rattle.cluster_routing.specs.Routing.{destination}
use Rattle.cluster_routing.specs.SlotMap.{SlotEntries}
use Rattle.cluster_calls.specs.Links.Request.{slots_command}
use Rattle.cluster_calls.specs.Calls.InParts.{position_parts}
use Rattle.cluster_calls.specs.Calls.OneSlot.{transaction_parts}
use Rattle.cluster_calls.specs.Calls.Parts.{at_node, Part, part_to, result_then, parts_of, if_ordered, pipeline_parts, node_parts, node_part, read_parts}
use Rattle.cluster_calls.specs.Calls.Task.{Task, slot_map_of, one_command, pipeline_of, positions_of, several_nodes, one_node, read_of, transaction_of}

abbrev pub task_parts : List (List ℕ) → SlotEntries → Task → Result (List Part) Refusal
task_parts read_only entries (slot_map_of node) = Ok (part_to slots_command (at_node node) ∷ [])
task_parts read_only entries (one_command command number order) = result_then
    (parts_of read_only command number) (if_ordered order)
task_parts read_only entries (pipeline_of es) = pipeline_parts 0 es
task_parts read_only entries (positions_of es) = position_parts es
task_parts read_only entries (read_of options streams) = Ok (read_parts read_only options streams)
task_parts read_only entries (several_nodes command) =
    if command.no_response then Err (by_cause NoResponse)
    else node_parts entries (sent command) (destination command.args read_only)
task_parts read_only entries (one_node node command) = node_part node command
task_parts read_only entries (transaction_of commands) = transaction_parts commands
