use Rattle.std.specs.Prelude.{filter_map}
use Rattle.std.specs.Vec.Iter.{into_iter_items}
use Rattle.std.proofs.Common.{◌≡◌, ◌++◌, map, option_map}
use Rattle.resp_core.specs.View.{view}
use Rattle.cluster_routing.proofs.combine.places.items_of_table.Given as goal

abbrev pub invariant-table : goal.invariant-table
invariant-table l = filter_map (option_map view) l.fn.table.items ≡ map view l.items.items ++ filter_map (option_map view) (into_iter_items l.slot-iterator)
