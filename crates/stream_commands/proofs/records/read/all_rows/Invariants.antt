use Rattle.std.proofs.Common.{◌≡◌, ◌++◌}
use Rattle.std.specs.List.{flat_map}
use Rattle.std.specs.Vec.Iter.{into_iter_items}
use Rattle.stream_commands.specs.RecordViews.{rows_under_keys, rows_view}
use Rattle.stream_commands.proofs.records.read.all_rows.Given as goal

abbrev pub invariant-loop-map : goal.invariant-loop-map
invariant-loop-map g l = rows_view l.keys.items ++ flat_map (rows_under_keys g.F.EntryForm.lists) (into_iter_items l.map-iterator) ≡ flat_map (rows_under_keys g.F.EntryForm.lists) l.fn.maps.items
