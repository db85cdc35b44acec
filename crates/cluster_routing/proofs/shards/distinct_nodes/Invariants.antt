use Rattle.std.proofs.Common.{◌≡◌, ◌++◌, map}
use Rattle.cluster_routing.specs.AllNodes.{node_sets}
use Rattle.cluster_routing.specs.Lists.{firsts}
use Rattle.cluster_routing.specs.Topology.{same_nodes}
use Rattle.cluster_routing.proofs.Distinct.{to_come_by}
use Rattle.cluster_routing.proofs.shards.distinct_nodes.Given as goal

abbrev pub invariant-ranges-2 : goal.invariant-ranges-2
invariant-ranges-2 l = firsts same_nodes (node_sets l.ranges) ≡ map (λ n. n.now) l.seen.items ++ to_come_by same_nodes (map (λ n. n.now) l.seen.items) l.nodes-iterator
