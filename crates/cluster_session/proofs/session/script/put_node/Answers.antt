use Rattle.std.proofs.Common.{sym, ◌∙◌}
use Rattle.cluster_routing.proofs.AllNodes.{order_is}
use Rattle.cluster_session.proofs.Setups.{has_node, node_put}
use Rattle.cluster_session.proofs.session.script.put_node.Goals as goal

pub returns-then-contains_key : goal.returns-then-contains_key
returns-then-contains_key c = has_node _ order_is c.args.at c.args.node c.args.nodes.now.entries (sym c.contains_key.ensures ∙ c.if-contains_key.true)

pub returns : goal.returns
returns c = node_put _ order_is c.args.at c.args.node c.args.nodes.now.entries c.insert.new.self.entries (sym c.contains_key.ensures ∙ c.if-contains_key.false) c.in_ok-insert.ensures.entries
