use Rattle.std.proofs.Common.{◌≡◌, map, take}
use Rattle.cluster_routing.specs.AllNodes.{node_sets}
use Rattle.cluster_routing.specs.Seen.{address}
use Rattle.cluster_routing.proofs.slot_map.SlotMap.addresses_for_all_primaries.Given as goal

abbrev pub invariant-entries : goal.invariant-entries
invariant-entries l = map (λ p. address p.node.now) l.primaries.items ≡ map (λ n. n.primary) (node_sets (take l.range l.self))
