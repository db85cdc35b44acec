use Rattle.std.proofs.Common.{◌≡◌, [], None, Option, drop, map, option_map}
use Rattle.cluster_routing.specs.Address.{Address}
use Rattle.cluster_routing.specs.NodePlaces.{AreAt}
use Rattle.cluster_routing.specs.Seen.{address}
use Rattle.cluster_routing.specs.declared.node_places.NodePlace.{NodePlace}
use Rattle.cluster_routing.proofs.OnceSorted.{taken}
use Rattle.cluster_routing.proofs.node_places.once_ascending.Given as goal

abbrev pub invariant-nodes : goal.invariant-nodes
invariant-nodes l = record {
  addresses : taken [] None (map (λ p. address p.node.now) l.placed-items) ≡ taken (map (λ p. address p.node.now) l.once.items) (option_map (λ a. address a.now) l.last) (map (λ p. address p.node.now) (drop l.placed-index l.placed-items));
  places : (at : NodePlace → Option Address) → AreAt at l.placed-items → AreAt at l.once.items;
}
