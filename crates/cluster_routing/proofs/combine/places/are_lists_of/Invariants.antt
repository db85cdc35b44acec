use Rattle.std.proofs.Common.{◌≡◌, map, drop}
use Rattle.resp_core.specs.View.{view}
use Rattle.cluster_routing.specs.Combine.{are_lists_of}
use Rattle.cluster_routing.proofs.combine.places.are_lists_of.Given as goal

abbrev pub invariant-values : goal.invariant-values
invariant-values l = are_lists_of (map (λ v. v.items) l.lists) (map view l.values) ≡ are_lists_of (map (λ v. v.items) l.rest) (map view (drop l.value-index l.values))
