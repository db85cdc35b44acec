-- Replies to XINFO GROUPS.
-- Source: the Redis documentation of XINFO GROUPS (Return information).
use Rattle.std.specs.Prelude.{ℕ, ℤ, List, Option, Some, option_and_then, codes}
use Rattle.resp_core.specs.Trees.{Tree}
use Rattle.stream_commands.specs.Shapes.{list_of, ◌and◌}
use Rattle.stream_commands.specs.Entries.{Fields, some_fields}
use Rattle.stream_commands.specs.UnderNames.{text_at, count_at, perhaps_at}

-- a group of a stream
pub record Group : Type 0 where
  pub name : List ℕ
  pub consumers : ℤ
  pub pending : ℤ
  pub last_delivered : List ℕ
  pub entries_read : Option ℤ
  pub lag : Option ℤ

-- a group of these
abbrev pub group : List ℕ → ℤ → ℤ → List ℕ → Option ℤ → Option ℤ → Group
group name consumers pending last_delivered entries_read lag = record {
  name = name;
  consumers = consumers;
  pending = pending;
  last_delivered = last_delivered;
  entries_read = entries_read;
  lag = lag;
}

abbrev pub group_of : Fields → Option Group
group_of fields =
    Some group
    and text_at (codes "name") fields
    and count_at (codes "consumers") fields
    and count_at (codes "pending") fields
    and text_at (codes "last-delivered-id") fields
    and perhaps_at (codes "entries-read") fields
    and perhaps_at (codes "lag") fields

-- a group that a reply lists
abbrev pub a_group : Tree → Option Group
a_group t = option_and_then group_of (some_fields t)

-- what a reply to XINFO GROUPS is read as
abbrev pub groups_reply : Tree → Option (List Group)
groups_reply = list_of a_group
