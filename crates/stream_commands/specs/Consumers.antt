-- Replies to XINFO CONSUMERS.
-- Source: the Redis documentation of XINFO CONSUMERS (Return information).
use Rattle.std.specs.Prelude.{ℕ, ℤ, List, Option, Some, option_and_then, codes}
use Rattle.resp_core.specs.Trees.{Tree}
use Rattle.stream_commands.specs.Shapes.{list_of, ◌and◌}
use Rattle.stream_commands.specs.Entries.{Fields, some_fields}
use Rattle.stream_commands.specs.UnderNames.{text_at, count_at}

-- a consumer of a group
pub record Consumer : Type 0 where
  pub name : List ℕ
  pub pending : ℤ
  pub idle : ℤ

-- a consumer of these
abbrev pub consumer : List ℕ → ℤ → ℤ → Consumer
consumer name pending idle = record { name = name; pending = pending; idle = idle }

abbrev pub consumer_of : Fields → Option Consumer
consumer_of fields = Some consumer and text_at (codes "name") fields and count_at
    (codes "pending") fields and count_at (codes "idle") fields

-- a consumer that a reply lists
abbrev pub a_consumer : Tree → Option Consumer
a_consumer t = option_and_then consumer_of (some_fields t)

-- what a reply to XINFO CONSUMERS is read as
abbrev pub consumers_reply : Tree → Option (List Consumer)
consumers_reply = list_of a_consumer
