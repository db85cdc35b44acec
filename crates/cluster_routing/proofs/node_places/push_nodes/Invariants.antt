use Rattle.std.proofs.Common.{◌≡◌, ◌∷◌, ℕ, Option, map, slice_get, take}
use Rattle.cluster_routing.specs.Address.{Address}
use Rattle.cluster_routing.specs.AllNodes.{ascending, node_list, put_addresses}
use Rattle.cluster_routing.specs.NodePlaces.{AreAt}
use Rattle.cluster_routing.specs.Seen.{address}
use Rattle.cluster_routing.specs.declared.node_places.NodePlace.{NodePlace}
use Rattle.cluster_routing.proofs.node_places.push_nodes.Given as goal

abbrev pub invariant-replicas : goal.invariant-replicas
invariant-replicas l = record {
  addresses : ascending (map (λ p. address p.node.now) l.placed.items) ≡ put_addresses (ascending (map (λ p. address p.node.now) l.fn.placed.items)) (l.nodes.primary ∷ map address (take l.number l.node-items));
  places : (at : NodePlace → Option Address) → ((n : ℕ) → at (record { range = l.range; node = n }) ≡ slice_get (node_list l.nodes) n) → AreAt at l.fn.placed.items → AreAt at l.placed.items;
}
