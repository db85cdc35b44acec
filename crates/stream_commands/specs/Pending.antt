-- Replies to XPENDING with a key and a group: how many entries are pending, between which ids, and for whom.
-- Source: the Redis documentation of XPENDING (Return information).
use Rattle.std.specs.Prelude.{ℕ, ℤ, pos, List, Option, Some, option_and_then, unwrap_or, if◌then◌else◌, map as each}
use Rattle.resp_core.specs.Trees.{Tree}
use Rattle.resp_args.specs.Convert.{tuple2, tuple4, is_zero}
use Rattle.resp_args.specs.Numbers.{unsigned_text}
use Rattle.stream_commands.specs.Shapes.{a_text, a_count, perhaps, list_of, ◌and◌}
use Rattle.stream_commands.specs.AutoClaim.{keep_present}
use Rattle.stream_commands.specs.Consumers.{Consumer}

pub record PendingData : Type 0 where
  pub count : ℤ
  pub start : List ℕ
  pub end : List ℕ
  pub consumers : List Consumer

-- how many entries are pending, between which ids and for whom; or none is
pub data Pending : Type 0 where
  none_pending : Pending
  some_pending : PendingData → Pending

-- a consumer's name and its number as a text, which counts as 0 where it is no number; nothing is said of
-- idleness
abbrev pub pending_consumer : List ℕ × List ℕ → Consumer
pending_consumer c = record { name = c.0; pending = unwrap_or (unsigned_text 64 c.1) (pos 0); idle = pos 0 }

abbrev pub pending_data : ℤ → List (Option (List ℕ × List ℕ)) → List ℕ → List ℕ → Pending
pending_data count consumers start end = some_pending
    (record {
      count = count;
      start = start;
      end = end;
      consumers = each pending_consumer (keep_present consumers);
    })

-- with a number of 0 the rest says nothing; else both ids must be there
abbrev pub pending_of : ℤ × Option (List ℕ) × Option (List ℕ) × List (Option (List ℕ × List ℕ))
    → Option Pending
pending_of p = if is_zero p.0 then Some none_pending else (Some (pending_data p.0 p.3) and p.1 and p.2)

-- what a reply to XPENDING is read as
abbrev pub pending_reply : Tree → Option Pending
pending_reply t = option_and_then pending_of
    (tuple4 a_count (perhaps a_text) (perhaps a_text) (list_of (perhaps (tuple2 a_text a_text))) t)
