use Rattle.std.proofs.Common.{◌≡◌, ◌++◌, drop}
use Rattle.cluster_routing.proofs.topology.shard_copies.Given as goal

abbrev pub invariant-shards : goal.invariant-shards
invariant-shards l = l.shards ≡ l.copies.items ++ drop l.shard-index l.shards
