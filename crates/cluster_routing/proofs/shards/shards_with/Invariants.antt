use Rattle.std.proofs.Common.{◌≡◌, ◌++◌, map, drop}
use Rattle.cluster_routing.specs.Topology.{shard_with}
use Rattle.cluster_routing.proofs.shards.shards_with.Given as goal

abbrev pub invariant-sets : goal.invariant-sets
invariant-sets l = map (shard_with l.ranges) (map (λ n. n.now) l.sets) ≡ l.shards.items ++ map (shard_with l.ranges) (map (λ n. n.now) (drop l.nodes-index l.sets))
