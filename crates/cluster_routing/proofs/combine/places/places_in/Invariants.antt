use Rattle.std.proofs.Common.{◌≡◌, ◌++◌, map, drop}
use Rattle.cluster_routing.specs.Lists.{concat}
use Rattle.cluster_routing.proofs.combine.places.places_in.Given as goal

abbrev pub invariant-lists : goal.invariant-lists
invariant-lists l = concat (map (λ v. v.items) l.lists) ≡ l.places.items ++ concat (map (λ v. v.items) (drop l.list-index l.lists))
