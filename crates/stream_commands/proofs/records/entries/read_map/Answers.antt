use Rattle.std.proofs.Common.{◌++◌, ap, string_bytes}
use Rattle.std.proofs.Common.{map as each}
use Rattle.stream_commands.specs.Entries.{without_times}
use Rattle.stream_commands.specs.RecordViews.{entries_view, fields_view}
use Rattle.stream_commands.proofs.Made.{each-each, answers_with}
use Rattle.stream_commands.proofs.records.entries.read_map.Goals as goal

pub returns : goal.returns
returns c = answers_with _ (λ es. entries_view c.args.ids.now.items ++ each without_times es) _ _ _ c.add_entries.result c.in_ok-from_redis_value.ensures (ap (λ l. entries_view c.args.ids.now.items ++ l) (each-each without_times (λ e. (string_bytes e.0, fields_view e.1)) c.in_ok-from_redis_value.field-0.entries)) c.add_entries.ensures
