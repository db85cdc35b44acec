use Rattle.std.proofs.Common.{◌≡◌, ◌++◌, drop}
use Rattle.cluster_routing.specs.Seen.{addresses}
use Rattle.cluster_routing.proofs.address.copies_of.Given as goal

abbrev pub invariant-nodes : goal.invariant-nodes
invariant-nodes l = addresses l.nodes ≡ addresses l.copies.items ++ addresses (drop l.node-index l.nodes)
