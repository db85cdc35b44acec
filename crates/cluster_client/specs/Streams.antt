-- Calls on streams, as a client is asked for them.
use Rattle.std.specs.Prelude.{◌≡◌, ℕ, List, map, None, Result, IfOk}
use Rattle.std.specs.declared.alloc.AllocError.{AllocError}
use Rattle.resp_args.specs.Command.{Command}
use Rattle.stream_commands.specs.Commands.{plain_command}
use Rattle.cluster_calls.specs.Calls.Call.{StreamCall}
use Rattle.cluster_calls.specs.Calls.Task.{sentence, sentence_task, stream_refusal, stream_task}

-- the fields of an entry, of a list of names and values
abbrev pub fields_by : {F V : Type 0} → (F → List ℕ) → (V → List ℕ) → List (F × V) → List (List ℕ × List ℕ)
fields_by name value fields = map (λ f. (name f.0, value f.1)) fields

-- The call is refused by no check, and goes out whole as its one command, which is this one unless memory was refused.
pub record GoesOutAs (call : StreamCall) (cmd : Result Command AllocError) : Type 0 where
  pub unrefused : stream_refusal call ≡ None
  pub whole : stream_task call ≡ sentence_task call
  pub written : IfOk cmd (λ c. c ≡ plain_command (sentence call))
