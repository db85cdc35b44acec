-- What is sent again, and what never is: of a command in parts, of a pipeline, of a refresh, of a command to
-- one node.
use Rattle.std.specs.Prelude.{◌≡◌, ◌≢◌, ℕ, true, false, not, ◌&&◌, if◌then◌else◌, nat_eq, List, [], ◌∷◌, ◌++◌, map, None, Ok}
use Rattle.std.specs.List.{list_any, AllByRecursion}
use Rattle.resp_args.specs.Command.{Command}
use Rattle.resp_args.specs.Packed.{sent}
use Rattle.cluster_routing.specs.Address.{Address}
use Rattle.cluster_routing.specs.Lists.{concat, IsDistinct}
use Rattle.cluster_calls.specs.Links.Faults.{LinkFault}
use Rattle.cluster_calls.specs.Links.Log.{Exchange, requests, is_unanswered}
use Rattle.cluster_calls.specs.Links.Request.{slots_command}
use Rattle.cluster_calls.specs.Links.World.{is_linked}
use Rattle.cluster_calls.specs.Calls.Call.{Entry, Call, Refresh, At}
use Rattle.cluster_calls.specs.Calls.Legal.{direct, node_groups, IsLegalCall}
use Rattle.cluster_calls.specs.Calls.Plan.{Client, Dispatch, plan}
use Rattle.cluster_calls.specs.Calls.Reads.{read_slot}
use Rattle.cluster_calls.specs.Calls.Refusals.{sent_refusal}
use Rattle.cluster_calls.specs.Calls.Replies.{args_slot}
use Rattle.cluster_calls.specs.Calls.Task.{Task, pipeline_of, read_of, task_of}
use Rattle.cluster_calls.specs.OneServer.Laws.{is_in_parts, is_redirected}

-- the slot that the arguments of a part name
abbrev pub task_slot : Task → List (List ℕ) → ℕ
task_slot (read_of options streams) args = read_slot options args
task_slot _ args = args_slot args

-- the parts of a command have slots of their own, and so arguments of their own
abbrev pub PartsHaveTheirOwnSlots : Type 0
PartsHaveTheirOwnSlots = (client : Client) (picks : List Address) (call : Call) (ds : List Dispatch)
    → is_in_parts (task_of call) ≡ true → plan client picks call ≡ Ok ds
    → IsDistinct nat_eq (map (λ (d : Dispatch). task_slot (task_of call) d.args) ds)

-- Behind a request of a command whose reply is no redirect, or is lost, no other has its arguments again,
-- whether the call is answered or not.
abbrev pub NoneIsSentAgain : Type 0
NoneIsSentAgain = (client : Client) (picks : List Address) (call : Call) (before after : List Exchange)
    (x : Exchange)
    → is_in_parts (task_of call) ≡ true → IsLegalCall client picks call (before ++ x ∷ after)
    → is_redirected x ≡ false
    → AllByRecursion (λ (y : Exchange). y.request.args ≢ x.request.args) after

-- A pipeline sends its commands node by node, each once and as it is, from the first node on: those of all
-- nodes where no link failed, so where it is answered.
abbrev pub PipelinesSendOnce : Type 0
PipelinesSendOnce = (client : Client) (picks : List Address) (faults : Address → LinkFault) (call : Call)
    (entries : List Entry)
    (ds : List Dispatch) (xs : List Exchange)
    → task_of call ≡ pipeline_of entries → plan client picks call ≡ Ok ds → IsLegalCall client picks call xs
    → (asked left : List (List Dispatch)) × (node_groups ds ≡ asked ++ left)
    × (requests xs ≡ map direct (concat asked))
    × (list_any is_unanswered xs ≡ false → left ≡ [])
    × (sent_refusal client faults (task_of call) xs ≡ None → left ≡ [])

-- a refresh sends one request, whatever comes of it, and none to a node without an open link
abbrev pub RefreshesSendOnce : Type 0
RefreshesSendOnce = (client : Client) (picks : List Address) (node : Address) (xs : List Exchange)
    → IsLegalCall client picks (Refresh node) xs
    → requests xs ≡ (if is_linked client.links node then direct (record { node = node; args = slots_command })
    ∷ [] else [])

-- A command to one node is sent once, as it is and to that node, whatever comes of it; not at all where it
-- waits for no response or no open link leads there.
abbrev pub OneNodeIsAskedOnce : Type 0
OneNodeIsAskedOnce = (client : Client) (picks : List Address) (node : Address) (command : Command)
    (xs : List Exchange) → IsLegalCall client picks (At node command) xs
    → requests xs ≡ (if not command.no_response && is_linked client.links node
    then direct (record { node = node; args = sent command }) ∷ [] else [])
