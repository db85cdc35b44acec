use Rattle.std.proofs.Common.{sym}
use Rattle.cluster_session.specs.LinesRead.{access_in}
use Rattle.cluster_routing.proofs.AllNodes.{order_is}
use Rattle.cluster_session.proofs.Setups.{no_node, fault_put}
use Rattle.cluster_session.proofs.session.script.put_fault.Goals as goal

pub returns-in-None : goal.returns-in-None
returns-in-None c = no_node _ order_is c.args.at.now (access_in c.args.access) c.args.number c.args.nodes.now.entries (sym c.in-None.ensures.value)

pub returns-in-Some : goal.returns-in-Some
returns-in-Some c =
    fault_put _ order_is c.args.at.now (access_in c.args.access) c.args.number c.args.nodes.now.entries _ c.in-Some.node.now c.set_fault.new.self c.set_fault.result
    (sym c.in-Some.ensures.value) (c.get_mut.follows.holds c.set_fault.new.self).0 c.set_fault.ensures
