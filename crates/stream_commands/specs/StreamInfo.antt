-- Replies to XINFO STREAM, also with what a server tells of idempotent ids.
-- Source: the Redis documentation of XINFO STREAM (Return information).
use Rattle.std.specs.Prelude.{ℕ, ℤ, pos, List, [], ◌∷◌, Option, Some, None, option_and_then, codes}
use Rattle.resp_core.specs.Trees.{Tree, array}
use Rattle.resp_args.specs.Convert.{items}
use Rattle.stream_commands.specs.Shapes.{a_text, ◌and◌}
use Rattle.stream_commands.specs.Entries.{Fields, Entry, some_fields}
use Rattle.stream_commands.specs.UnderNames.{under, read_or, text_at, count_at, count_of_at}

-- an entry of which nothing is known
abbrev pub no_entry : Entry
no_entry = record { id = []; fields = []; milliseconds = None; deliveries = None }

abbrev pub entry : List ℕ → Fields → Entry
entry id fields = record { id = id; fields = fields; milliseconds = None; deliveries = None }

-- an array's first item is the id and its second the fields; what is missing is empty, and what is no array
-- is no entry
abbrev pub entry_of : List Tree → Option Entry
entry_of [] = Some no_entry
entry_of (id ∷ []) = Some entry and a_text id and Some []
entry_of (id ∷ fields ∷ more) = Some entry and a_text id and some_fields fields

-- an entry where it is an array, and else an empty one
abbrev pub an_entry : Tree → Option Entry
an_entry (array ts) = entry_of (items ts)
an_entry t = Some no_entry

abbrev pub entry_at : List ℕ → Fields → Option Entry
entry_at name fields = read_or an_entry no_entry (under name fields)

-- what XINFO STREAM tells of a stream
pub record StreamInfo : Type 0 where
  pub last_generated : List ℕ
  pub radix_tree_keys : ℤ
  pub groups : ℤ
  pub length : ℤ
  pub first : Entry
  pub last : Entry

abbrev pub stream_info : List ℕ → ℤ → ℤ → ℤ → Entry → Entry → StreamInfo
stream_info last_generated radix_tree_keys groups length first last = record {
  last_generated = last_generated;
  radix_tree_keys = radix_tree_keys;
  groups = groups;
  length = length;
  first = first;
  last = last;
}

-- nothing is known of the stream
abbrev pub no_stream_info : StreamInfo
no_stream_info = stream_info [] (pos 0) (pos 0) (pos 0) no_entry no_entry

abbrev pub stream_info_of : Fields → Option StreamInfo
stream_info_of fields =
    Some stream_info
    and text_at (codes "last-generated-id") fields
    and count_at (codes "radix-tree-nodes") fields
    and count_at (codes "groups") fields
    and count_at (codes "length") fields
    and entry_at (codes "first-entry") fields
    and entry_at (codes "last-entry") fields

-- what a reply to XINFO STREAM is read as
abbrev pub info_stream_reply : Tree → Option StreamInfo
info_stream_reply t = option_and_then stream_info_of (some_fields t)

-- with idempotent ids

-- what XINFO STREAM tells of a stream, with what a server tells of idempotent ids
pub record IdempotentInfo : Type 0 where
  pub base : StreamInfo
  pub duration : ℤ
  pub maxsize : ℤ
  pub producers_tracked : ℤ
  pub ids_tracked : ℤ
  pub ids_added : ℤ
  pub ids_repeated : ℤ

-- what is told of a stream and of idempotent ids
abbrev pub idempotent_info : StreamInfo → ℤ → ℤ → ℤ → ℤ → ℤ → ℤ → IdempotentInfo
idempotent_info base duration maxsize producers_tracked ids_tracked ids_added ids_repeated = record {
  base = base;
  duration = duration;
  maxsize = maxsize;
  producers_tracked = producers_tracked;
  ids_tracked = ids_tracked;
  ids_added = ids_added;
  ids_repeated = ids_repeated;
}

abbrev pub idempotent_info_of : Fields → Option IdempotentInfo
idempotent_info_of fields =
    Some idempotent_info
    and stream_info_of fields
    and count_of_at 32 (codes "idmp-duration") fields
    and count_of_at 16 (codes "idmp-maxsize") fields
    and count_at (codes "pids-tracked") fields
    and count_at (codes "iids-tracked") fields
    and count_at (codes "iids-added") fields
    and count_at (codes "iids-duplicates") fields

-- what a reply to XINFO STREAM with idempotency is read as
abbrev pub info_stream_idempotent_reply : Tree → Option IdempotentInfo
info_stream_idempotent_reply t = option_and_then idempotent_info_of (some_fields t)
