use Rattle.std.specs.Vec.Iter.{into_iter_items}
use Rattle.stream_commands.proofs.GatherSteps.{Putting}
use Rattle.stream_commands.specs.Join.{lent_keys}
use Rattle.stream_commands.specs.RecordViews.{rows_view}
use Rattle.stream_commands.proofs.join.put_rows.Given as goal

abbrev pub invariant-rows : goal.invariant-rows
invariant-rows l = Putting (lent_keys l.places.keys) l.part (rows_view l.fn.rows.items) l.initial.table.items (rows_view (into_iter_items l.row-iterator)) l.table.items
