use Rattle.std.proofs.Common.{◌≡◌, ◌++◌, take, codes, string_bytes}
use Rattle.std.specs.List.{flat_map}
use Rattle.stream_commands.specs.RecordViews.{rows_view}
use Rattle.cluster_session.specs.Printed.{row_words}
use Rattle.cluster_session.proofs.session.print.entries.print_rows.Given as goal

abbrev pub invariant-loop-row : goal.invariant-loop-row
invariant-loop-row l =
    string_bytes l.output ≡ string_bytes l.initial.output
    ++ flat_map (λ row. codes " " ++ row_words row) (rows_view (take l.row-index l.rows))
