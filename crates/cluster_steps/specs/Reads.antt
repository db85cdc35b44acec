-- A read of streams, as the code has it: what it comes down to, its parts, and the record from their replies.
use Rattle.std.specs.Prelude.{◌≡◌, ℕ, true, false, if◌then◌else◌, List, map, filter_map, slice_get, Option, Some, None, option_and_then}
use Rattle.std.specs.Borrow.{Bor}
use Rattle.resp_core.specs.Errors.{by_cause}
use Rattle.resp_core.specs.Trees.{Tree}
use Rattle.resp_args.specs.Convert.{traverse}
use Rattle.cluster_routing.specs.declared.route.Route.{Route}
use Rattle.stream_commands.specs.Commands as commands
use Rattle.stream_commands.specs.Join.{all_rows, join}
use Rattle.stream_commands.specs.ReadReply.{Row, read_reply}
use Rattle.stream_commands.specs.Settings.{ReadSettings}
use Rattle.cluster_calls.specs.Calls.Call.{Stream}
use Rattle.cluster_calls.specs.Calls.Parts.{Part, at_slot, part_to}
use Rattle.cluster_calls.specs.Calls.Reads.{key_places, stream_slots}
use Rattle.cluster_calls.specs.Calls.Task.{are_of_one_slot, is_by_key, read_refusal, stream_ids, stream_keys}
use Rattle.cluster_steps.specs.declared.read_checks.Reading.{Reading}
use Rattle.cluster_steps.specs.declared.read_checks.Reading.TheVariants as readings
use Rattle.cluster_steps.specs.declared.read_parts.Stream.{Stream as CodeStream}

-- the code's streams as plain data
abbrev pub stream_of : CodeStream → Stream
stream_of s = record { key = s.key.items; id = s.id.items }

-- the code's streams
abbrev pub streams_in : List CodeStream → List Stream
streams_in streams = map stream_of streams

-- lent keys and ids as plain data
abbrev pub lent_streams : List (Bor (List ℕ) × Bor (List ℕ)) → List Stream
lent_streams streams = map (λ s. record { key = s.0.now; id = s.1.now }) streams

-- the streams at those of these positions that there are
abbrev pub found_at : List ℕ → List Stream → List Stream
found_at positions streams = filter_map (slice_get streams) positions

-- the read of the streams at some positions, to a route
abbrev pub part_at : ReadSettings → List Stream → Route × List ℕ → Part
part_at options streams g =
    part_to (commands.xread options (stream_keys (found_at g.1 streams)) (stream_ids (found_at g.1 streams)))
    (at_slot g.0)

-- What a read comes down to: a refusal by its first check that is not met, a read of each of these streams by
-- itself, or one command.
abbrev pub IsReading : ReadSettings → List Stream → Reading → Type 0
IsReading options streams (readings.Refused cause) =
    read_refusal (stream_keys streams) options ≡ Some (by_cause cause)
IsReading options streams (readings.ByKey list) =
    (read_refusal (stream_keys streams) options ≡ None)
    × (is_by_key options (stream_keys streams) ≡ true)
    × (streams_in list.items ≡ streams)
IsReading options streams readings.Whole =
    (read_refusal (stream_keys streams) options ≡ None)
    × (is_by_key options (stream_keys streams) ≡ false)

-- for each part the places of its streams among all
abbrev pub read_places : List Stream → List (List ℕ)
read_places streams = map (λ slot. key_places slot streams) (stream_slots streams)

-- The rows of the records of the parts whose streams have these places: where all keys have one slot as they
-- were read, else joined in order of the keys.
abbrev pub joined_at : List (List ℕ) → List (List ℕ) → List (List Row) → Option (List Row)
joined_at keys places records = if are_of_one_slot keys then Some (all_rows records)
    else join keys places records

-- The rows from the replies to parts that have these places: of one slot as they were read, else joined in the
-- order of the keys.
abbrev pub rows_at : List (List ℕ) → List (List ℕ) → List Tree → Option (List Row)
rows_at keys places replies = option_and_then (joined_at keys places) (traverse read_reply replies)

-- ---- reads in pipelines

-- texts of which some are wanting, where none is
abbrev pub each_or_none : List (Option (List ℕ)) → Option (List (List ℕ))
each_or_none texts = traverse (λ text. text) texts
