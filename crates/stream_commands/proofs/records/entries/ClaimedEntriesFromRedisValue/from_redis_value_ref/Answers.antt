use Rattle.std.proofs.Common.{ap, sym, ◌∙◌, Some, string_bytes, option_map, pos}
use Rattle.std.proofs.Common.{map as each}
use Rattle.stream_commands.specs.Entries.{with_times}
use Rattle.stream_commands.specs.RecordViews.{fields_view}
use Rattle.stream_commands.proofs.Made.{each-each}
use Rattle.stream_commands.proofs.records.entries.ClaimedEntriesFromRedisValue.from_redis_value_ref.Goals as goal

pub returns : goal.returns
returns c = ap (option_map (each with_times)) c.in_ok-claimed.ensures ∙ ap Some (each-each with_times (λ e. (string_bytes e.0, fields_view e.1, option_map pos e.2, option_map pos e.3)) c.in_ok-claimed.claimed.items ∙ sym c.in_ok-list_claimed.ensures)
