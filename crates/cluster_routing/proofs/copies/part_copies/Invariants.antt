use Rattle.std.proofs.Common.{◌≡◌, ◌++◌, map, drop}
use Rattle.cluster_routing.specs.Info.{shown_part}
use Rattle.cluster_routing.proofs.copies.part_copies.Given as goal

abbrev pub invariant-parts : goal.invariant-parts
invariant-parts l = map shown_part l.parts ≡ map shown_part l.copies.items ++ map shown_part (drop l.part-index l.parts)
