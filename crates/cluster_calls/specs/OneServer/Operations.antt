-- What one server is asked for, and what it responds.
use Rattle.std.specs.Prelude.{ℕ, Bool, false, bytes_eq, if◌then◌else◌, List, [], ◌∷◌, map, Option, codes}
use Rattle.resp_core.specs.Trees.{Tree, nil}
use Rattle.stream_commands.specs.ReadReply.{Row, read_reply}
use Rattle.stream_commands.specs.Settings.{ReadSettings}
use Rattle.cluster_calls.specs.Calls.Call.{Stream}
use Rattle.cluster_calls.specs.Calls.Reads.{streams_at, read_slot}
use Rattle.cluster_calls.specs.Calls.OneSlot.{args_of}
use Rattle.cluster_calls.specs.Calls.Task.{Task, read_of, transaction_of}

-- an operation: a command, by its wire arguments, a read of streams, each by itself, or commands that are done
-- as one
pub data Operation : Type 0 where
  RunCommand : (args : List (List ℕ)) → Operation
  ReadKeys : (options : ReadSettings) → (streams : List Stream) → Operation
  RunAsOne : (commands : List (List (List ℕ))) → Operation

-- a response: a reply, or of a read the rows of its streams, none where they have another shape
pub data Response : Type 0 where
  Reply : Tree → Response
  Rows : Option (List Row) → Response

abbrev pub reply_tree : Response → Tree
reply_tree (Reply tree) = tree
reply_tree (Rows rows) = nil

-- the response is a reply of this sort
abbrev pub IfReply : (Tree → Type 0) → Response → Type 0
IfReply P (Reply tree) = P tree
IfReply P (Rows rows) = ⊥

-- commands as operations
abbrev pub run_each : List (List (List ℕ)) → List Operation
run_each commands = map RunCommand commands

abbrev pub is_exec : List (List ℕ) → Bool
is_exec (name ∷ []) = bytes_eq name (codes "EXEC")
is_exec _ = false

-- what a request of the task asks for, by its arguments: of a read in parts the streams of its slot, of a
-- transaction by EXEC all of its commands, else the command that it is
abbrev pub task_operation : Task → List (List ℕ) → Operation
task_operation (read_of options streams) args = ReadKeys options (streams_at (read_slot options args) streams)
task_operation (transaction_of commands) args = if is_exec args then RunAsOne (args_of commands)
    else RunCommand args
task_operation _ args = RunCommand args

-- what a node's reply to an operation comes to
abbrev pub response_by : Operation → Tree → Response
response_by (RunCommand args) tree = Reply tree
response_by (ReadKeys options streams) tree = Rows (read_reply tree)
response_by (RunAsOne commands) tree = Reply tree
