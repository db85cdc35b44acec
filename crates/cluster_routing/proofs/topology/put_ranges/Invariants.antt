use Rattle.std.proofs.Common.{◌≡◌, drop}
use Rattle.cluster_routing.specs.Topology.{put_ranges}
use Rattle.cluster_routing.proofs.topology.put_ranges.Given as goal

abbrev pub invariant-ranges-2 : goal.invariant-ranges-2
invariant-ranges-2 l = put_ranges l.fn.map l.ranges l.place ≡ put_ranges l.map (drop l.start-index l.ranges) l.place
