-- Laws of calls and runs, each as one statement over the definitions.
use Rattle.std.specs.Prelude.{◌≡◌, ◌↔◌, ◌≤◌, ◌*◌, ℕ, suc, Bool, true, false, not, nat_eq, bytes_eq, ⊤, List, [], ◌∷◌, map, filter, length, Contains, Option, Some, None, option_and_then, Result, Ok, MatchBool}
use Rattle.std.specs.List.{AllByRecursion}
use Rattle.resp_core.specs.Trees.{Tree}
use Rattle.resp_core.specs.Parts.{first_error}
use Rattle.resp_core.specs.Errors.{Refusal}
use Rattle.resp_args.specs.Command.{Command}
use Rattle.resp_args.specs.Convert.{traverse}
use Rattle.resp_args.specs.Packed.{sent}
use Rattle.resp_args.specs.declared.cmd.Arg.TheVariants.{Simple}
use Rattle.cluster_routing.specs.Address.{Address, same_address}
use Rattle.cluster_routing.specs.Choice.{Strategy}
use Rattle.cluster_routing.specs.Laws.{AddressesAscend}
use Rattle.cluster_routing.specs.Lists.{among, IsDistinct, is_distinct, Pairwise, group_by_group}
use Rattle.cluster_routing.specs.Routing.{to_route, destination}
use Rattle.cluster_routing.specs.declared.route.Route.{Route}
use Rattle.stream_commands.specs.Join.{join}
use Rattle.stream_commands.specs.ReadReply.{Row}
use Rattle.stream_commands.specs.Settings.{ReadSettings}
use Rattle.cluster_calls.specs.Links.Reply.{Sort, Moved, Ask, sort_of}
use Rattle.cluster_calls.specs.Links.Log.{Exchange, is_answered}
use Rattle.cluster_calls.specs.Calls.Call.{Call, Query, Ordered, Stream}
use Rattle.cluster_calls.specs.Calls.Task.{Task, slot_map_of, one_command, pipeline_of, positions_of, several_nodes, one_node, read_of, transaction_of, task_of, stream_keys}
use Rattle.cluster_calls.specs.Calls.Reads.{stream_slots, key_places}
use Rattle.cluster_calls.specs.Calls.Plan.{Client, Dispatch, plan}
use Rattle.cluster_calls.specs.Calls.Legal.{IsLegalCall}
use Rattle.cluster_calls.specs.Links.Faults.{LinkFault}
use Rattle.cluster_calls.specs.Calls.Refusals.{sent_refusal}
use Rattle.cluster_calls.specs.Calls.Answer.{Answer, outcomes_in}
use Rattle.cluster_calls.specs.OneServer.Keyspace.{Keyspace, Step, History, Leads, on_slot}
use Rattle.cluster_calls.specs.OneServer.Meaning.{Meaning, DoesRead, rows_of_steps, OneServer}
use Rattle.cluster_calls.specs.OneServer.Honest.{HonestRun}
use Rattle.cluster_calls.specs.OneServer.Operations.{Operation, Response}
use Rattle.cluster_calls.specs.OneServer.Headline.{RepliedCall, IsPlayedFrom, command_logs, AreOnSlots}

-- ---- how many requests a call makes

abbrev pub request_bound : ℕ → ℕ → Task → ℕ
request_bound budget parts (slot_map_of node) = 1
request_bound budget parts (one_command command number order) = parts * suc budget
request_bound budget parts (pipeline_of entries) = length entries
request_bound budget parts (positions_of entries) = parts
request_bound budget parts (several_nodes command) = parts
request_bound budget parts (one_node node command) = 1
request_bound budget parts (read_of options streams) = parts * suc budget
request_bound budget parts (transaction_of commands) = parts * suc budget

-- A legal log has at most so many requests: one of a refresh; for each part one more than the budget; one for
-- each command of a pipeline, and for each part of one that tells of each position; one for each node of a
-- command to several, and one of a command to a node that is named.
abbrev pub RequestsAreBounded : Type 0
RequestsAreBounded = (client : Client) (picks : List Address) (call : Call) (ds : List Dispatch)
    (xs : List Exchange)
    → plan client picks call ≡ Ok ds → IsLegalCall client picks call xs
    → length xs ≤ request_bound client.settings.budget (length ds) (task_of call)

-- a command to several nodes goes to each of them once, ascending
abbrev pub NodesOnceAscending : Type 0
NodesOnceAscending = (client : Client) (picks : List Address) (call : Call) (command : Command)
    (xs : List Exchange)
    → task_of call ≡ several_nodes command → IsLegalCall client picks call xs
    → AddressesAscend (map (λ (x : Exchange). x.request.node) xs)

-- ---- what is sent again

abbrev pub is_redirect_sort : Sort → Bool
is_redirect_sort (Moved e) = true
is_redirect_sort (Ask e) = true
is_redirect_sort _ = false

abbrev pub is_redirect_reply : Option Tree → Bool
is_redirect_reply None = false
is_redirect_reply (Some tree) = is_redirect_sort (sort_of tree)

abbrev pub is_redirected : Exchange → Bool
is_redirected x = is_redirect_reply x.reply

-- the tasks that go out part by part
abbrev pub is_in_parts : Task → Bool
is_in_parts (one_command command number order) = true
is_in_parts (read_of options streams) = true
is_in_parts _ = false

-- behind an answered request stands the next part's, behind any other the same again, and that one was
-- redirected
abbrev pub AreRepeatsRedirected : List Exchange → Type 0
AreRepeatsRedirected [] = ⊤
AreRepeatsRedirected (x ∷ []) = ⊤
AreRepeatsRedirected (x ∷ y ∷ xs) =
    MatchBool (is_answered x) ⊤ ((is_redirected x ≡ true) × (y.request.args ≡ x.request.args))
    × AreRepeatsRedirected (y ∷ xs)

-- Of a task that goes out in parts: behind an answered request stands that of the next part, and behind any
-- other the same arguments again, where that one was answered by a redirect.
abbrev pub OnlyRedirectsRepeat : Type 0
OnlyRedirectsRepeat = (client : Client) (picks : List Address) (call : Call) (xs : List Exchange)
    → is_in_parts (task_of call) ≡ true → IsLegalCall client picks call xs → AreRepeatsRedirected xs

-- of a command that was answered each part has one request whose reply is no redirect, in the order of
-- sending
abbrev pub EachPartIsAnsweredOnce : Type 0
EachPartIsAnsweredOnce = (client : Client) (picks : List Address) (faults : Address → LinkFault) (call : Call)
    (ds : List Dispatch) (xs : List Exchange)
    → is_in_parts (task_of call) ≡ true → plan client picks call ≡ Ok ds → IsLegalCall client picks call xs
    → sent_refusal client faults (task_of call) xs ≡ None
    → map (λ (x : Exchange). x.request.args) (filter (λ x. not (is_redirected x)) xs)
    ≡ map (λ (d : Dispatch). d.args) ds

-- a command with a gap routes as the arguments that it is sent as, wherever it routes to a slot
abbrev pub GapsNameNoKey : Type 0
GapsNameNoKey = (command : Command) (read_only : List (List ℕ)) (route : Route)
    → destination command.args read_only ≡ Some (to_route route)
    → destination (map (λ bytes. Simple bytes) (sent command)) read_only ≡ Some (to_route route)

-- ---- reads in parts

-- Where the steps of a read by keys that all differ tell rows, the join of what those on each slot tell is
-- what they tell in the call's order.
abbrev pub JoinIsTheWhole : Type 0
JoinIsTheWhole = (options : ReadSettings) (streams : List Stream) (steps : List Step) (rows : List Row)
    → is_distinct bytes_eq (stream_keys streams) ≡ true → Pairwise (DoesRead options) streams steps
    → rows_of_steps steps ≡ Some rows
    → option_and_then (join (stream_keys streams)
    (map (λ slot. key_places slot streams) (stream_slots streams)))
    (traverse (λ slot. rows_of_steps (on_slot slot steps)) (stream_slots streams)) ≡ Some rows

-- ---- histories of steps

-- a list is a history exactly if each slot's steps, in order, lead from its first cell to its last
abbrev pub HistoriesAreBySlot : Type 0
HistoriesAreBySlot = (keys keys' : Keyspace) (steps : List Step) → History keys steps keys'
    ↔ ((slot : ℕ) → Leads (keys slot) (on_slot slot steps) (keys' slot))

-- sent part by part, each part one slot, in any order of the parts, steps are a history exactly as in
-- argument order
abbrev pub PartsKeepHistories : Type 0
PartsKeepHistories = (parts : List ℕ) (keys keys' : Keyspace) (steps : List Step) → IsDistinct nat_eq parts
    → AllByRecursion (λ (x : Step). among nat_eq x.slot parts ≡ true) steps
    → History keys (group_by_group nat_eq (λ (x : Step). x.slot) parts steps) keys' ↔ History keys steps keys'

-- sent node by node, each slot at one node, steps are a history exactly as in pipeline order
abbrev pub NodesKeepHistories : Type 0
NodesKeepHistories = (node_of : ℕ → Address) (nodes : List Address) (keys keys' : Keyspace)
    (steps : List Step) → IsDistinct same_address nodes
    → AllByRecursion (λ (x : Step). among same_address (node_of x.slot) nodes ≡ true) steps
    → History keys (group_by_group same_address (λ (x : Step). node_of x.slot) nodes steps) keys'
    ↔ History keys steps keys'

-- ---- one outcome

-- a meaning without clock and chance: a deed at a cell has at most one step
abbrev pub IsDeterministic : Meaning → Type 0
IsDeterministic meaning = (x y : Step) → Contains meaning x → Contains meaning y → x.deed ≡ y.deed
    → x.before ≡ y.before → x ≡ y

-- given the same operations, one server responds the same and leaves the same keyspace
abbrev pub OneServerIsDetermined : Type 0
OneServerIsDetermined = (meaning : Meaning) (keys left right : Keyspace) (operations : List Operation)
    (ts us : List Response) → IsDeterministic meaning
    → OneServer meaning keys operations ts left → OneServer meaning keys operations us right → (ts ≡ us)
    × ((slot : ℕ) → left slot ≡ right slot)

-- a value that holds no error
abbrev pub IsGiven : Result Tree Refusal → Type 0
IsGiven outcome = (tree : Tree) × (outcome ≡ Ok tree) × (first_error tree ≡ None)

-- the call was answered, and each position of a pipeline that tells of each
abbrev pub IsAnswered : RepliedCall → Type 0
IsAnswered t = (answer : Answer) × (t.answer ≡ Ok answer) × AllByRecursion IsGiven (outcomes_in t.answer)

-- the call without the order of its parts, and without the number of a node
abbrev pub in_any_order : Call → Call
in_any_order (Query command number) = Query command 0
in_any_order (Ordered command order number) = Query command 0
in_any_order call = call

-- two runs of the same calls, all answered, get the same answers and leave the same keyspace, whatever maps,
-- orders and picks
abbrev pub RunsAgree : Type 0
RunsAgree = (strategy strategy' : Option Strategy) (client client' : Client)
    (faults faults' : Address → LinkFault) (ts us : List RepliedCall)
    (meaning : Meaning) (keys left right : Keyspace) (done done' : ℕ → Bool) → IsDeterministic meaning
    → map (λ (t : RepliedCall). in_any_order t.call) ts ≡ map (λ (t : RepliedCall). in_any_order t.call) us
    → AreOnSlots ts → AllByRecursion IsAnswered ts → AllByRecursion IsAnswered us
    → IsPlayedFrom strategy client faults ts → IsPlayedFrom strategy' client' faults' us
    → HonestRun meaning keys done (command_logs ts) left
    → HonestRun meaning keys done' (command_logs us) right
    → (map (λ (t : RepliedCall). t.answer) ts ≡ map (λ (t : RepliedCall). t.answer) us)
    × ((slot : ℕ) → left slot ≡ right slot)
