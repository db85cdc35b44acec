use Rattle.std.proofs.Common.{map, sym, ap, ◌∙◌}
use Rattle.cluster_routing.specs.Lists.{among}
use Rattle.cluster_routing.specs.Topology.{same_nodes}
use Rattle.cluster_routing.proofs.DistinctNodes.{none_gathered, passed_by, gathered_one}
use Rattle.cluster_routing.proofs.shards.distinct_nodes.Goals as goal

pub ranges-2-init : goal.ranges-2-init
ranges-2-init c = none_gathered c.args.ranges.now _ _ c.new-seen.ensures.items (c.into_iter-nodes-iterator.ensures.into_iter_gives ∙ c.values-nodes-items.ensures.values)

pub ranges-2-preserved-in-Continue-1 : goal.ranges-2-preserved-in-Continue-1
ranges-2-preserved-in-Continue-1 c =
    gathered_one _ c.ranges-2.seen.items c.push.new.self.items c.ranges-2.nodes-iterator c.next.new.self c.in-Some.nodes c.ranges-2.invariant c.in-Some.ensures.steps
    (ap (λ l. among same_nodes c.in-Some.nodes.now (map (λ n. n.now) l)) (sym c.deref.ensures.value) ∙ sym c.is_among.ensures ∙ c.if-not-is_among.true) c.in_ok-push.ensures.items

pub ranges-2-preserved : goal.ranges-2-preserved
ranges-2-preserved c =
    passed_by _ c.ranges-2.seen.items c.ranges-2.nodes-iterator c.next.new.self c.in-Some.nodes.now c.ranges-2.invariant c.in-Some.ensures.steps
    (ap (λ l. among same_nodes c.in-Some.nodes.now (map (λ n. n.now) l)) (sym c.deref.ensures.value) ∙ sym c.is_among.ensures ∙ c.if-not-is_among.false)
