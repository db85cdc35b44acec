use Rattle.std.proofs.Common.{◌≡◌, flat_map, map, take}
use Rattle.cluster_routing.specs.AllNodes.{ascending, node_list, node_sets}
use Rattle.cluster_routing.specs.NodePlaces.{AreAt, node_at}
use Rattle.cluster_routing.specs.Seen.{address}
use Rattle.cluster_routing.proofs.node_places.placed_nodes.Given as goal

abbrev pub invariant-entries : goal.invariant-entries
invariant-entries l = record {
  addresses : ascending (map (λ p. address p.node.now) l.placed.items) ≡ ascending (flat_map node_list (node_sets (take l.range l.ranges)));
  places : AreAt (node_at l.ranges) l.placed.items;
}
