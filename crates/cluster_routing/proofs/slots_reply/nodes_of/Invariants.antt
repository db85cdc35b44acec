use Rattle.std.proofs.Common.{◌≡◌, ◌++◌, map, drop}
use Rattle.resp_core.specs.View.{view}
use Rattle.cluster_routing.specs.Seen.{addresses}
use Rattle.cluster_routing.specs.SlotsReply.{listed_nodes}
use Rattle.cluster_routing.proofs.slots_reply.nodes_of.Given as goal

abbrev pub invariant-loop-node : goal.invariant-loop-node
invariant-loop-node l = listed_nodes l.host (map view l.nodes) ≡ addresses l.listed.items ++ listed_nodes l.host (map view (drop l.node-index l.nodes))
