-- A read of streams in parts, one for each slot of its keys: the streams of a part, and the record from the
-- replies to the parts.
use Rattle.std.specs.Prelude.{ℕ, nat_eq, ◌==◌, if◌then◌else◌, List, [], ◌∷◌, map, filter, drop, length, is_some, Option, option_map, option_and_then, codes}
use Rattle.resp_args.specs.Convert.{traverse}
use Rattle.cluster_routing.specs.HashSlot.{hash_slot}
use Rattle.cluster_routing.specs.Lists.{firsts}
use Rattle.cluster_routing.specs.Parts.{tuple_slot, places_from}
use Rattle.stream_commands.specs.Clauses as clauses
use Rattle.stream_commands.specs.Join.{all_rows, join}
use Rattle.stream_commands.specs.ReadReply.{Row, read_reply}
use Rattle.stream_commands.specs.Sentences.{read_sentence}
use Rattle.stream_commands.specs.Settings.{ReadSettings}
use Rattle.cluster_calls.specs.Calls.Call.{Stream}
use Rattle.cluster_calls.specs.Calls.Replies.{reply_or_nil}
use Rattle.cluster_calls.specs.Calls.Task.{stream_keys, are_of_one_slot}
use Rattle.cluster_calls.specs.Links.Log.{Exchange}

-- ---- parts

-- the slots of the streams, in order of first appearance
abbrev pub stream_slots : List Stream → List ℕ
stream_slots streams = firsts nat_eq (map (λ (s : Stream). hash_slot s.key) streams)

-- the streams of a slot, in the call's order
abbrev pub streams_at : ℕ → List Stream → List Stream
streams_at slot streams = filter (λ (s : Stream). slot == hash_slot s.key) streams

-- their places among all
abbrev pub key_places : ℕ → List Stream → List ℕ
key_places slot streams = places_from slot 0 (map hash_slot (stream_keys streams))

-- what stands before the keys of a read
abbrev pub read_head : ReadSettings → List (List ℕ)
read_head options = clauses.sentence (
    ((if is_some options.group then codes "XREADGROUP" else codes "XREAD") ∷ [])
    ∷ read_sentence options
    ∷ (codes "STREAMS" ∷ [])
    ∷ [])

-- the slot that a part's arguments name: that of its first key
abbrev pub read_slot : ReadSettings → List (List ℕ) → ℕ
read_slot options args = tuple_slot (drop (length (read_head options)) args)

-- ---- the record

-- the rows of each reply; none where one has another shape
abbrev pub readings : List Exchange → Option (List (List Row))
readings xs = traverse (λ x. read_reply (reply_or_nil x)) xs

-- the rows of all parts, joined in the order of the call's keys
abbrev pub joined : ReadSettings → List Stream → List Exchange → Option (List Row)
joined options streams xs =
    option_and_then (join (stream_keys streams)
    (map (λ (x : Exchange). key_places (read_slot options x.request.args) streams) xs)) (readings xs)

-- where all keys have one slot the record as it was read, and the join of the parts' records else
abbrev pub read_rows : ReadSettings → List Stream → List Exchange → Option (List Row)
read_rows options streams xs =
    if are_of_one_slot (stream_keys streams) then option_map all_rows (readings xs)
    else joined options streams xs
