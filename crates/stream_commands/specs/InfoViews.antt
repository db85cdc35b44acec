-- The records of pending entries and of information as plain data.
use Rattle.std.specs.Prelude.{ℕ, ℤ, pos, List, String, Option, Vec, option_map, string_bytes, map as each}
use Rattle.std.specs.Global.{Global}
use Rattle.stream_commands.specs.Consumers.{Consumer}
use Rattle.stream_commands.specs.Groups.{Group}
use Rattle.stream_commands.specs.Pending.{Pending, PendingData, none_pending, some_pending}
use Rattle.stream_commands.specs.PendingCount.{PendingId}
use Rattle.stream_commands.specs.StreamInfo.{StreamInfo, IdempotentInfo}
use Rattle.stream_commands.specs.RecordViews.{entry_view}
use Rattle.stream_commands.specs.declared.records.consumers.StreamInfoConsumer.{StreamInfoConsumer}
use Rattle.stream_commands.specs.declared.records.groups.StreamInfoGroup.{StreamInfoGroup}
use Rattle.stream_commands.specs.declared.records.pending.StreamPendingData.{StreamPendingData}
use Rattle.stream_commands.specs.declared.records.pending.StreamPendingReply.{StreamPendingReply}
use Rattle.stream_commands.specs.declared.records.pending.StreamPendingReply.TheVariants.{Empty, Data}
use Rattle.stream_commands.specs.declared.records.pending_count.StreamPendingId.{StreamPendingId}
use Rattle.stream_commands.specs.declared.records.stream_info.StreamInfoStreamReply.{StreamInfoStreamReply}
use Rattle.stream_commands.specs.declared.records.stream_info.StreamInfoStreamReplyWithIdempotency.{StreamInfoStreamReplyWithIdempotency}

-- what a consumer in a reply to XINFO CONSUMERS stands for
abbrev pub consumer_view : StreamInfoConsumer → Consumer
consumer_view c = record { name = string_bytes c.name; pending = pos c.pending; idle = pos c.idle }

-- what a group in a reply to XINFO GROUPS stands for
abbrev pub group_view : StreamInfoGroup → Group
group_view g = record {
  name = string_bytes g.name;
  consumers = pos g.consumers;
  pending = pos g.pending;
  last_delivered = string_bytes g.last_delivered_id;
  entries_read = option_map pos g.entries_read;
  lag = option_map pos g.lag;
}

abbrev pub pair_view : String Global × String Global → List ℕ × List ℕ
pair_view p = (string_bytes p.0, string_bytes p.1)

-- what pairs that may be missing stand for
abbrev pub pairs_view : List (Option (String Global × String Global)) → List (Option (List ℕ × List ℕ))
pairs_view pairs = each (λ o. option_map pair_view o) pairs

-- what the four parts of a reply to XPENDING stand for
abbrev pub pending_parts_view : ℕ × Option (String Global) × Option (String Global)
    × Vec (Option (String Global × String Global)) Global
    → ℤ × Option (List ℕ) × Option (List ℕ) × List (Option (List ℕ × List ℕ))
pending_parts_view p =
    (pos p.0, option_map string_bytes p.1, option_map string_bytes p.2, pairs_view p.3.items)

-- what the data of pending entries stand for
abbrev pub pending_data_view : StreamPendingData → PendingData
pending_data_view d = record {
  count = pos d.count;
  start = string_bytes d.start_id;
  end = string_bytes d.end_id;
  consumers = each consumer_view d.consumers.items;
}

-- what a reply to XPENDING stands for
abbrev pub pending_view : StreamPendingReply → Pending
pending_view Empty = none_pending
pending_view (Data d) = some_pending (pending_data_view d)

-- how many entries are pending
abbrev pub pending_count : StreamPendingReply → ℕ
pending_count Empty = 0
pending_count (Data d) = d.count

-- what a pending entry of a range stands for
abbrev pub pending_id_view : StreamPendingId → PendingId
pending_id_view p = record {
  id = string_bytes p.id;
  consumer = string_bytes p.consumer;
  milliseconds = pos p.last_delivered_ms;
  deliveries = pos p.times_delivered;
}

-- what a reply to XINFO STREAM stands for
abbrev pub stream_info_view : StreamInfoStreamReply → StreamInfo
stream_info_view r = record {
  last_generated = string_bytes r.last_generated_id;
  radix_tree_keys = pos r.radix_tree_keys;
  groups = pos r.groups;
  length = pos r.length;
  first = entry_view r.first_entry;
  last = entry_view r.last_entry;
}

-- what a reply to XINFO STREAM with idempotency stands for
abbrev pub idempotent_info_view : StreamInfoStreamReplyWithIdempotency → IdempotentInfo
idempotent_info_view r = record {
  base = stream_info_view r.base;
  duration = pos r.idmp_duration;
  maxsize = pos r.idmp_maxsize;
  producers_tracked = pos r.pids_tracked;
  ids_tracked = pos r.iids_tracked;
  ids_added = pos r.iids_added;
  ids_repeated = pos r.iids_duplicates;
}
