use Rattle.std.proofs.Common.{◌≡◌, ◌++◌}
use Rattle.std.specs.List.{flat_map}
use Rattle.std.specs.Vec.Iter.{into_iter_items}
use Rattle.stream_commands.specs.RecordViews.{entries_under_ids, entries_view}
use Rattle.stream_commands.proofs.records.entries.list_entries.Given as goal

abbrev pub invariant-loop-map : goal.invariant-loop-map
invariant-loop-map l = entries_view l.ids.items ++ flat_map entries_under_ids (into_iter_items l.map-iterator) ≡ flat_map entries_under_ids l.fn.maps.items
