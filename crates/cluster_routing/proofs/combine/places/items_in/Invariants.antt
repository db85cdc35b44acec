use Rattle.std.specs.Prelude.{flat_map}
use Rattle.std.specs.Vec.Iter.{into_iter_items}
use Rattle.std.proofs.Common.{◌≡◌, ◌++◌, map}
use Rattle.resp_core.specs.View.{view}
use Rattle.cluster_routing.specs.Combine.{items_or_none}
use Rattle.cluster_routing.proofs.combine.places.items_in.Given as goal

abbrev pub invariant-values : goal.invariant-values
invariant-values l = flat_map items_or_none (map view l.fn.values.items) ≡ map view l.items.items ++ flat_map items_or_none (map view (into_iter_items l.value-iterator))
