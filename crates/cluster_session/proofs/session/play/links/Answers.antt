use Rattle.std.proofs.Common.{rules}
use Rattle.cluster_calls.specs.Links.World.{nodes}
use Rattle.cluster_routing.proofs.AllNodes.{order_is}
use Rattle.cluster_session.proofs.Distinct.{no_repeats}
use Rattle.cluster_session.proofs.Seen.{link_seen}
use Rattle.cluster_session.proofs.session.play.links.Goals as goal

pub returns-clause-distinct : goal.returns-clause-distinct
returns-clause-distinct c = no_repeats _ order_is c.args.levels.limit (nodes link_seen c.loop-address.links.items) c.args.set_up.entries (search rules) c.len.ensures.ordered
