use Rattle.std.specs.Prelude.{filter_map}
use Rattle.std.specs.Vec.Iter.{into_iter_items}
use Rattle.std.proofs.Common.{◌≡◌, ◌++◌, option_map}
use Rattle.stream_commands.specs.RecordViews.{row_view, rows_view}
use Rattle.stream_commands.proofs.join.rows_in.Given as goal

abbrev pub invariant-table : goal.invariant-table
invariant-table l = filter_map (option_map row_view) l.fn.table.items ≡ rows_view l.rows.items ++ filter_map (option_map row_view) (into_iter_items l.place-iterator)
