use Rattle.std.proofs.Common.{◌≡◌, map, take}
use Rattle.cluster_routing.specs.Seen.{address}
use Rattle.cluster_routing.proofs.all_nodes.addresses_of.Given as goal

abbrev pub invariant-nodes : goal.invariant-nodes
invariant-nodes l = map (λ a. address a.now) l.nodes.items ≡ map (λ p. address p.node.now) (take l.node-index l.node-items)
