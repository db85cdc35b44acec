-- The records of the code as plain data.
use Rattle.std.specs.Prelude.{◌≡◌, ℕ, pos, Bool, List, String, Option, Result, MatchResult, option_map, string_bytes, map as each}
use Rattle.std.specs.Global.{Global}
use Rattle.std.specs.declared.hash.FoldHasher.{FoldHasher}
use Rattle.std.specs.declared.hash.BuildHasherDefault.{BuildHasherDefault}
use Rattle.indexmap.specs.IndexMap.{IndexMap}
use Rattle.resp_core.specs.declared.value.Value.{Value}
use Rattle.resp_core.specs.Errors.{Unreadable, no_memory}
use Rattle.resp_core.specs.View.{view}
use Rattle.stream_commands.specs.Entries.{Entry, Fields, without_times, with_times}
use Rattle.stream_commands.specs.ReadReply.{Row, row}
use Rattle.stream_commands.specs.AutoClaim.{Claimed, AutoClaim}
use Rattle.stream_commands.specs.declared.records.autoclaim.StreamAutoClaimReply.{StreamAutoClaimReply}
use Rattle.stream_commands.specs.declared.records.entries.StreamId.{StreamId}
use Rattle.stream_commands.specs.declared.records.read.StreamKey.{StreamKey}

-- what making a record answers: one that stands for this, or want of memory
abbrev pub MadeOf : {M S : Type 0} → (S → M) → M → Result S Unreadable → Type 0
MadeOf meaning made result = MatchResult result (λ v. meaning v ≡ made) (λ e. e ≡ no_memory)

abbrev pub Map : Type 0 → Type 0
Map V = IndexMap (String Global) V (BuildHasherDefault FoldHasher)

-- what the fields of an entry stand for
abbrev pub fields_view : Map Value → Fields
fields_view m = each (λ f. (string_bytes f.0, view f.1)) m.entries

-- what an entry stands for
abbrev pub entry_view : StreamId → Entry
entry_view s = record {
  id = string_bytes s.id;
  fields = fields_view s.map;
  milliseconds = option_map pos s.milliseconds_elapsed_from_delivery;
  deliveries = option_map pos s.delivered_count;
}

-- what entries stand for
abbrev pub entries_view : List StreamId → List Entry
entries_view ids = each entry_view ids

-- what fields under ids stand for: entries in standard form
abbrev pub entries_under_ids : Map (Map Value) → List Entry
entries_under_ids m = each (λ e. without_times (string_bytes e.0, fields_view e.1)) m.entries

-- what the four parts of an entry in claim form stand for
abbrev pub entry_of_parts : String Global × Map Value × Option ℕ × Option ℕ → Entry
entry_of_parts e = with_times
    (string_bytes e.0, fields_view e.1, option_map pos e.2, option_map pos e.3)

-- what lists of entries under keys stand for: rows of a read
abbrev pub rows_under_keys : {V : Type 0} → (V → List Entry) → Map V → List Row
rows_under_keys lists m = each (λ e. row (string_bytes e.0, lists e.1)) m.entries

-- what a row of a read stands for
abbrev pub row_view : StreamKey → Row
row_view k = record { key = string_bytes k.key; entries = entries_view k.ids.items }

-- what rows of a read stand for
abbrev pub rows_view : List StreamKey → List Row
rows_view keys = each row_view keys

abbrev pub claimed_view : List StreamId → Bool → Claimed
claimed_view ids invalid = record { entries = entries_view ids; some_invalid = invalid }

-- what a reply to XAUTOCLAIM stands for
abbrev pub autoclaim_view : StreamAutoClaimReply → AutoClaim
autoclaim_view r = record {
  next = string_bytes r.next_stream_id;
  claimed = claimed_view r.claimed.items r.invalid_entries;
  deleted = each string_bytes r.deleted_ids.items;
}
