use Rattle.std.proofs.Common.{◌∙◌, Some, None}
use Rattle.cluster_routing.proofs.Replies.{item_of}
use Rattle.cluster_routing.proofs.routable.item_at.Goals as goal

pub returns-in-Some : goal.returns-in-Some
returns-in-Some c = c.bytes_of.ensures ∙ item_of c.args.items.now c.args.idx (Some c.in-Some.item) c.in-Some.ensures.lookup

pub returns-in-None : goal.returns-in-None
returns-in-None c = item_of c.args.items.now c.args.idx None c.in-None.ensures.lookup
