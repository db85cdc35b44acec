-- A call on streams whose one reply is read as a record.
use Rattle.std.specs.Prelude.{◌≡◌, ℕ, List, map, Option, None, option_map, Result, Ok, Err}
use Rattle.resp_core.specs.Trees.{Tree}
use Rattle.resp_core.specs.Errors.{Refusal}
use Rattle.cluster_routing.specs.Choice.{Strategy}
use Rattle.stream_commands.specs.Commands.{plain_command}
use Rattle.stream_commands.specs.declared.records.status.XDelExStatusCode.{XDelExStatusCode}
use Rattle.stream_commands.specs.declared.records.status.XDelExStatusCode.TheVariants.{IdNotFound, NotDeletedUnacknowledgedOrStillReferenced}
use Rattle.stream_commands.specs.declared.records.status.XDelExStatusCode.TheVariants as codes
use Rattle.cluster_calls.specs.Calls.Call.{Stream, StreamCall, OnStreams, Query}
use Rattle.cluster_calls.specs.Calls.Answer.{Answer, Deletion, not_found, deleted, still_referenced, stream_answer}
use Rattle.cluster_calls.specs.Calls.Task.{sentence, sentence_task, stream_refusal, stream_task}
use Rattle.cluster_calls.specs.Links.Converted.{ValueMade}
use Rattle.cluster_calls.specs.Links.Happened.{CallMade}
use Rattle.cluster_calls.specs.Links.World.{World}

-- a record, or why there is none, as an answer
abbrev pub record_answer : {T : Type 0} → (T → Answer) → Result T Refusal → Result Answer Refusal
record_answer shown (Ok value) = Ok (shown value)
record_answer shown (Err refusal) = Err refusal

-- the call's answer is what the conversion gives
abbrev pub IsReadBy : {M : Type 0} → StreamCall → (Tree → Option M) → (M → Answer) → Type 0
IsReadBy call convert shown = (tree : Tree) → stream_answer call tree ≡ option_map shown (convert tree)

-- The call was made, and the result is its answer. Where it goes out as its one command, that was made as a
-- query, for some reply or refusal, and the result is what the reply reads as.
pub record StreamCallMade {T : Type 0} (strategy : Option Strategy) (old new : World) (call : StreamCall)
    (shown : T → Answer) (result : Result T Refusal) : Type 0 where
  pub made : CallMade strategy old new (OnStreams call) (record_answer shown result)
  pub read : stream_refusal call ≡ None → stream_task call ≡ sentence_task call
      → ValueMade strategy old new (Query (plain_command (sentence call)) 0) shown (stream_answer call) result

-- the streams of a list of keys and ids
abbrev pub streams_by : {K I : Type 0} → (K → List ℕ) → (I → List ℕ) → List (K × I) → List Stream
streams_by key id streams = map (λ s. record { key = key s.0; id = id s.1 }) streams

-- what became of an entry, as the code tells it
abbrev pub deletion_of : XDelExStatusCode → Deletion
deletion_of IdNotFound = not_found
deletion_of codes.Deleted = deleted
deletion_of NotDeletedUnacknowledgedOrStillReferenced = still_referenced
