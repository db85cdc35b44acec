-- The operations of a call, its commands unsplit, and what of them counts where the call is refused.
use Rattle.std.specs.Prelude.{◌≡◌, ℕ, nat_eq, ⊤, Bool, true, false, not, List, [], ◌∷◌, map, filter, take, drop, length, Option, Some, None, Result, Ok, Err}
use Rattle.resp_core.specs.Trees.{Tree, ErrorText}
use Rattle.resp_core.specs.Parts.{first_error}
use Rattle.resp_core.specs.Errors.{Refusal}
use Rattle.resp_args.specs.Command.{Command}
use Rattle.resp_args.specs.Packed.{sent}
use Rattle.cluster_routing.specs.HashSlot.{hash_slot}
use Rattle.cluster_routing.specs.Lists.{among, concat}
use Rattle.cluster_routing.specs.Parts.{Tuple, tuple_slot}
use Rattle.cluster_routing.specs.Routing.{Destination, to_any_node, destination}
use Rattle.cluster_routing.specs.Split.{Split, split_of, join_split}
use Rattle.cluster_routing.specs.Combine.{array_of}
use Rattle.stream_commands.specs.ReadReply.{Row}
use Rattle.stream_commands.specs.Settings.{ReadSettings}
use Rattle.cluster_calls.specs.Links.Log.{Exchange}
use Rattle.cluster_calls.specs.Calls.Call.{Entry, Stream, Call}
use Rattle.cluster_calls.specs.Calls.Each.{Fate, redirected, fate_of}
use Rattle.cluster_calls.specs.Calls.InParts.{in_parts, part_count, split_at}
use Rattle.cluster_calls.specs.Calls.Task.{Task, slot_map_of, one_command, pipeline_of, positions_of, several_nodes, one_node, read_of, transaction_of, task_of}
use Rattle.cluster_calls.specs.Calls.Reads.{read_slot}
use Rattle.cluster_calls.specs.Calls.Replies.{exchange_slot, in_pipeline_order, not_ignored}
use Rattle.cluster_calls.specs.Calls.Answer.{Answer, Value, Refreshed, Read, Told, answer_in}
use Rattle.cluster_calls.specs.Calls.OneSlot.{args_of}
use Rattle.cluster_calls.specs.Calls.Transactions.{attempt_log, last_attempt}
use Rattle.cluster_calls.specs.OneServer.Honest.{counts, is_counted}
use Rattle.cluster_calls.specs.OneServer.Operations.{Operation, ReadKeys, RunAsOne, task_operation, Response, Reply, Rows, run_each}

-- the calls whose keyspace is spoken of: not those to several nodes or to one that is named, nor commands
-- that any node may serve
abbrev pub is_any_node : Option Destination → Bool
is_any_node (Some to_any_node) = true
is_any_node _ = false

abbrev pub is_task_on_slots : Task → Bool
is_task_on_slots (one_command command number order) = not (is_any_node (destination command.args []))
is_task_on_slots (several_nodes command) = false
is_task_on_slots (one_node node command) = false
is_task_on_slots (pipeline_of entries) = true
is_task_on_slots (positions_of entries) = true
is_task_on_slots (slot_map_of node) = true
is_task_on_slots (read_of options streams) = true
is_task_on_slots (transaction_of commands) = true

abbrev pub is_on_slots : Call → Bool
is_on_slots call = is_task_on_slots (task_of call)

-- ---- operations

abbrev pub task_operations : Task → List Operation
task_operations (one_command command number order) = run_each (sent command ∷ [])
task_operations (pipeline_of entries) = run_each (map (λ (e : Entry). sent e.command) entries)
task_operations (positions_of entries) = run_each (map (λ (e : Entry). sent e.command) entries)
task_operations (read_of options streams) = ReadKeys options streams ∷ []
task_operations (transaction_of commands) = RunAsOne (args_of commands) ∷ []
task_operations _ = []

abbrev pub operations : Call → List Operation
operations call = task_operations (task_of call)

-- a split command with these tuples, and nothing where there are none
abbrev pub split_with : Split → List Tuple → List (List (List ℕ))
split_with s [] = []
split_with s (t ∷ ts) = join_split s.word s.shared (t ∷ ts) ∷ []

abbrev pub with_slots : Split → List ℕ → List (List (List ℕ))
with_slots s slots = split_with s (filter (λ t. among nat_eq (tuple_slot t) slots) s.tuples)

-- of a command what the counted requests did
abbrev pub kept_by : List (List ℕ) → Option Split → List Exchange → List (List (List ℕ))
kept_by args (Some s) counted = with_slots s (map exchange_slot counted)
kept_by args None [] = []
kept_by args None (x ∷ xs) = args ∷ []

abbrev pub kept_of : List (List ℕ) → List Exchange → List (List (List ℕ))
kept_of args counted = kept_by args (split_of args) counted

-- of a read in parts the streams of the slots that the counted requests name, and nothing where there are
-- none
abbrev pub streams_with : List ℕ → List Stream → List Stream
streams_with slots streams = filter (λ (s : Stream). among nat_eq (hash_slot s.key) slots) streams

abbrev pub read_with : ReadSettings → List Stream → List Operation
read_with options [] = []
read_with options (s ∷ streams) = ReadKeys options (s ∷ streams) ∷ []

abbrev pub read_kept : ReadSettings → List Stream → List Exchange → List Operation
read_kept options streams counted = read_with options
    (streams_with (map (λ (x : Exchange). read_slot options x.request.args) counted) streams)

-- of a transaction what its counted requests ask for: all of it, or commands by themselves
abbrev pub as_one_kept : (ℕ → Bool) → List Command → List Exchange → List Operation
as_one_kept done commands xs = map (λ (x : Exchange). task_operation (transaction_of commands) x.request.args)
    (filter (λ (x : Exchange). counts done (task_operation (transaction_of commands) x.request.args) x) xs)

-- Of the positions of a pipeline, each by so many of the exchanges, in their order: of a command what its counted
-- requests did.
abbrev pub positions_kept : (ℕ → Bool) → List Entry → List Exchange → List (List Operation)
positions_kept done [] xs = []
positions_kept done (e ∷ es) xs =
    run_each (kept_of (sent e.command) (filter (is_counted done) (take (part_count (split_at e)) xs)))
    ∷ positions_kept done es (drop (part_count (split_at e)) xs)

-- what counts of each position
abbrev pub by_position : (ℕ → Bool) → List Entry → List Exchange → List (List Operation)
by_position done entries xs = positions_kept done entries (in_pipeline_order (in_parts entries) xs)

-- what counts of a refused call
abbrev pub task_kept : (ℕ → Bool) → Task → List Exchange → List Operation
task_kept done (one_command command number order) xs = run_each
    (kept_of (sent command) (filter (is_counted done) xs))
task_kept done (pipeline_of entries) xs = run_each
    (map (λ (x : Exchange). x.request.args) (filter (is_counted done) (in_pipeline_order entries xs)))
task_kept done (positions_of entries) xs = concat (by_position done entries xs)
task_kept done (read_of options streams) xs = read_kept options streams (filter (is_counted done) xs)
task_kept done (transaction_of commands) xs = as_one_kept done commands
    (attempt_log (last_attempt (args_of commands) xs))
task_kept done _ xs = []

abbrev pub kept : (ℕ → Bool) → Call → List Exchange → List Operation
kept done call xs = task_kept done (task_of call) xs

-- what counts of an answered call: all of it, but of a pipeline that tells of each position what counts of each
abbrev pub task_done : (ℕ → Bool) → Task → List Exchange → List Operation
task_done done (positions_of entries) xs = concat (by_position done entries xs)
task_done done task xs = task_operations task

-- the operations that count: all of an answered call, and what is kept of a refused one
abbrev pub counting : (ℕ → Bool) → Call → Result Answer Refusal → List Exchange → List Operation
counting done call (Ok answer) xs = task_done done (task_of call) xs
counting done call (Err refusal) xs = kept done call xs

-- ---- answers

-- A value that holds no error is the one response to what counts of its position, and of one that was sent on
-- nothing counts. Of any other outcome the responses say nothing.
abbrev pub IsValueBy : Tree → Option ErrorText → List Response → Type 0
IsValueBy tree None responses = responses ≡ Reply tree ∷ []
IsValueBy tree (Some e) responses = ⊤

abbrev pub IsRefusedBy : Fate → List Response → Type 0
IsRefusedBy redirected responses = responses ≡ []
IsRefusedBy fate responses = ⊤

abbrev pub IsOutcomeBy : Result Tree Refusal → List Response → Type 0
IsOutcomeBy (Ok tree) responses = IsValueBy tree (first_error tree) responses
IsOutcomeBy (Err refusal) responses = IsRefusedBy (fate_of (Err refusal)) responses

-- position by position, each with as many of the responses as operations of it count
abbrev pub AreOutcomesBy : List (List Operation) → List (Result Tree Refusal) → List Response → Type 0
AreOutcomesBy [] [] responses = responses ≡ []
AreOutcomesBy (os ∷ counted) (outcome ∷ outcomes) responses =
    IsOutcomeBy outcome (take (length os) responses) × AreOutcomesBy counted outcomes (drop (length os) responses)
AreOutcomesBy _ _ responses = ⊥

-- the answer is what the responses to the call's operations say
abbrev pub IsTaskAnswer : (ℕ → Bool) → Call → Task → List Exchange → Answer → List Response → Type 0
IsTaskAnswer done call (slot_map_of node) xs answer responses = (answer ≡ Refreshed) × (responses ≡ [])
IsTaskAnswer done call (one_command command number order) xs answer responses = (tree : Tree)
    × (responses ≡ Reply tree ∷ []) × (answer_in call tree ≡ Some answer)
IsTaskAnswer done call (pipeline_of entries) xs answer responses = (trees : List Tree) × (responses ≡ map Reply trees)
    × (answer ≡ Value (array_of (not_ignored entries trees)))
IsTaskAnswer done call (positions_of entries) xs answer responses = (outcomes : List (Result Tree Refusal))
    × (answer ≡ Told outcomes) × AreOutcomesBy (by_position done entries xs) outcomes responses
IsTaskAnswer done call (several_nodes command) xs answer responses = ⊥
IsTaskAnswer done call (one_node node command) xs answer responses = ⊥
IsTaskAnswer done call (transaction_of commands) xs answer responses = (tree : Tree)
    × (responses ≡ Reply tree ∷ []) × (answer ≡ Value tree)
IsTaskAnswer done call (read_of options streams) xs answer responses = (rows : List Row)
    × (responses ≡ Rows (Some rows) ∷ []) × (answer ≡ Read rows)

abbrev pub IsAnswerBy : (ℕ → Bool) → Call → List Exchange → Result Answer Refusal → List Response → Type 0
IsAnswerBy done call xs (Ok answer) responses = IsTaskAnswer done call (task_of call) xs answer responses
IsAnswerBy done call xs (Err refusal) responses = ⊤
