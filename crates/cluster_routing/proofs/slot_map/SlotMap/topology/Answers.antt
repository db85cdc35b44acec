use Rattle.std.proofs.Common.{ap, ◌∙◌, map, subst}
use Rattle.cluster_routing.specs.AllNodes.{node_sets}
use Rattle.cluster_routing.specs.Lists.{firsts}
use Rattle.cluster_routing.specs.Ranges.{IsAscending}
use Rattle.cluster_routing.specs.Topology.{same_nodes, shard_with}
use Rattle.cluster_routing.proofs.ServingShards.{serves_if}
use Rattle.cluster_routing.proofs.slot_map.SlotMap.topology.Goals as goal

pub returns-clause-serves : goal.returns-clause-serves
returns-clause-serves c =
    let entries = c.args.self.now in
    serves_if c.from_shards.result c.in_ok-shards_with.field-0.items entries
    (c.in_ok-shards_with.ensures ∙ ap (λ m. map (shard_with m) (map (λ n. n.now) c.deref.result.now)) c.slot_ranges-2.ensures ∙ ap (λ l. map (shard_with entries) (map (λ n. n.now) l)) c.deref.ensures.value
    ∙ ap (map (shard_with entries)) (c.in_ok-sets.ensures.sets ∙ ap (λ m. firsts same_nodes (node_sets m)) c.slot_ranges.ensures)) (subst IsAscending c.slot_ranges.ensures c.distinct_nodes.ensures.ascending)
    c.from_shards.ensures
