use Rattle.std.proofs.Common.{◌≡◌, ◌++◌, string_bytes}
use Rattle.std.proofs.Common.{map as each}
use Rattle.stream_commands.specs.ReadReply.{row}
use Rattle.stream_commands.specs.RecordViews.{rows_view}
use Rattle.stream_commands.proofs.records.read.add_rows.Given as goal

abbrev pub invariant-loop-key : goal.invariant-loop-key
invariant-loop-key g l = rows_view l.keys.items ++ each (λ e. row (string_bytes e.0, g.F.EntryForm.lists e.1)) l.key-iterator ≡ rows_view l.fn.keys.items ++ each (λ e. row (string_bytes e.0, g.F.EntryForm.lists e.1)) l.fn.rows.entries
