use Rattle.std.proofs.Common.{◌≡◌, map, take}
use Rattle.cluster_routing.specs.Info.{shown_part}
use Rattle.cluster_routing.specs.Parts.{groups}
use Rattle.cluster_routing.specs.Routing.{part_to}
use Rattle.cluster_routing.proofs.tuples.parts_of_few.Given as goal

abbrev pub invariant-slots : goal.invariant-slots
invariant-slots l = map shown_part l.parts.items ≡ map (part_to l.role) (groups (take l.place l.slots))
