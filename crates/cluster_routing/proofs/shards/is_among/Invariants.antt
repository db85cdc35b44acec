use Rattle.std.proofs.Common.{◌≡◌, map, drop}
use Rattle.cluster_routing.specs.Lists.{among}
use Rattle.cluster_routing.specs.Topology.{same_nodes}
use Rattle.cluster_routing.proofs.shards.is_among.Given as goal

abbrev pub invariant-seen : goal.invariant-seen
invariant-seen l = among same_nodes l.nodes (map (λ n. n.now) l.seen) ≡ among same_nodes l.nodes (map (λ n. n.now) (drop l.other-index l.seen))
