use Rattle.std.proofs.Common.{◌≡◌, map, option_map, None}
use Rattle.resp_core.specs.View.{view}
use Rattle.cluster_routing.specs.Lists.{numbers_below}
use Rattle.cluster_routing.proofs.combine.places.empty_table.Given as goal

abbrev pub invariant-places : goal.invariant-places
invariant-places l = map (option_map view) l.table.items ≡ map (λ _. None) (numbers_below l.place)
