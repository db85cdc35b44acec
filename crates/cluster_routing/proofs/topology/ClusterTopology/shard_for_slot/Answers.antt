use Rattle.std.proofs.Common.{◌∙◌, ap, option_and_then}
use Rattle.std.specs.Prelude.{slice_get}
use Rattle.cluster_routing.specs.Ranges.{value_at}
use Rattle.cluster_routing.specs.Topology.{shard_at}
use Rattle.cluster_routing.proofs.Replies.{got}
use Rattle.cluster_routing.proofs.PlacedShards.{shard_by_place}
use Rattle.cluster_routing.proofs.topology.ClusterTopology.shard_for_slot.Goals as goal

pub returns-in-None : goal.returns-in-None
returns-in-None c =
    ap (option_and_then (slice_get c.self.inside.shards.items)) (c.in-None.ensures ∙ ap (value_at c.args.slot) c.self.invariant)
    ∙ shard_by_place c.args.slot c.self.inside.shards.items ∙ ap (shard_at c.args.slot) c.self.view_is

pub returns-in-Some : goal.returns-in-Some
returns-in-Some c =
    let shards = c.self.inside.shards.items in
    got c.deref.result.now c.in-Some.place.now c.get-in-Some.result c.get-in-Some.ensures.lookup
    ∙ ap (λ l. slice_get l c.in-Some.place.now) c.deref.ensures.value
    ∙ ap (option_and_then (slice_get shards)) (c.in-Some.ensures ∙ ap (value_at c.args.slot) c.self.invariant)
    ∙ shard_by_place c.args.slot shards ∙ ap (shard_at c.args.slot) c.self.view_is
