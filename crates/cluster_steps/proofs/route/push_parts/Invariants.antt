use Rattle.std.proofs.Common.{◌≡◌, ◌++◌, map}
use Rattle.std.specs.Vec.Iter.{into_iter_items}
use Rattle.cluster_routing.specs.Info.{shown_routed}
use Rattle.cluster_steps.specs.CodeParts.{routed_part}
use Rattle.cluster_steps.specs.FirstPlaces.{part_of}
use Rattle.cluster_steps.proofs.route.push_parts.Given as goal

abbrev pub invariant-routes : goal.invariant-routes
invariant-routes l = map part_of l.parts.items ++ map routed_part (shown_routed (into_iter_items l.route-iterator)) ≡ map part_of l.fn.parts.items ++ map routed_part (shown_routed l.fn.routed.items)
