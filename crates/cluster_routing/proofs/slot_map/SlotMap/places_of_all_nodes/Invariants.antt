use Rattle.std.proofs.Common.{◌≡◌, map, take}
use Rattle.cluster_routing.proofs.slot_map.SlotMap.places_of_all_nodes.Given as goal

abbrev pub invariant-nodes : goal.invariant-nodes
invariant-nodes l = l.places.items ≡ map (λ p. p.place) (take l.node-index l.node-items)
