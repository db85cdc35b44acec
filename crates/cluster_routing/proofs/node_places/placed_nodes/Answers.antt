use Rattle.std.proofs.Common.{◌∙◌, ap}
use Rattle.cluster_routing.specs.AllNodes.{node_list, put_addresses}
use Rattle.cluster_routing.specs.NodePlaces.{node_at}
use Rattle.cluster_routing.proofs.NodePlaces.{range_at, range_behind}
use Rattle.cluster_routing.proofs.node_places.placed_nodes.Goals as goal

pub entries-preserved : goal.entries-preserved
entries-preserved c = record {
  addresses = c.in_ok-push_nodes.ensures.addresses ∙ ap (λ s. put_addresses s (node_list c.index-ranges-range.result.1.1)) c.entries.invariant.addresses ∙ range_behind c.args.ranges.now c.entries.range c.index-ranges-range.result c.entries-test.true c.index-ranges-range.is;
  places = c.in_ok-push_nodes.ensures.places (node_at c.args.ranges.now) (range_at c.args.ranges.now c.entries.range c.index-ranges-range.result c.entries-test.true c.index-ranges-range.is) c.entries.invariant.places;
}
