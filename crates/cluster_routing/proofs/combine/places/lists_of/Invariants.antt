use Rattle.std.proofs.Common.{◌≡◌, ◌++◌, map, drop}
use Rattle.cluster_routing.specs.Combine.{tuple_places}
use Rattle.cluster_routing.proofs.combine.places.lists_of.Given as goal

abbrev pub invariant-order : goal.invariant-order
invariant-order l = map (λ p. tuple_places l.width p.1.items) l.order ≡ map (λ v. v.items) l.lists.items ++ map (λ p. tuple_places l.width p.1.items) (drop l.part-index l.order)
