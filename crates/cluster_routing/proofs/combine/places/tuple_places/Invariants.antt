use Rattle.std.specs.Prelude.{◌/◌}
use Rattle.std.proofs.Common.{◌≡◌, ◌++◌, map, drop}
use Rattle.cluster_routing.specs.Combine.{every}
use Rattle.cluster_routing.proofs.combine.places.tuple_places.Given as goal

abbrev pub invariant-positions : goal.invariant-positions
invariant-positions l = map (λ p. p / l.width) (every l.width 0 l.positions) ≡ l.places.items ++ map (λ p. p / l.width) (every l.width l.skip (drop l.position-index l.positions))
