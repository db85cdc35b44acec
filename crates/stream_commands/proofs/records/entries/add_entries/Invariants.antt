use Rattle.std.proofs.Common.{◌≡◌, ◌++◌, string_bytes}
use Rattle.std.proofs.Common.{map as each}
use Rattle.stream_commands.specs.Entries.{without_times}
use Rattle.stream_commands.specs.RecordViews.{entries_view, fields_view}
use Rattle.stream_commands.proofs.records.entries.add_entries.Given as goal

abbrev pub invariant-loop-id : goal.invariant-loop-id
invariant-loop-id l = entries_view l.ids.items ++ each (λ e. without_times (string_bytes e.0, fields_view e.1)) l.id-iterator ≡ entries_view l.fn.ids.items ++ each (λ e. without_times (string_bytes e.0, fields_view e.1)) l.fn.entries.entries
