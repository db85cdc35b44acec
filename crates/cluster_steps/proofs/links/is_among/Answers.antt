use Rattle.std.specs.Prelude.{is_some}
use Rattle.std.proofs.Common.{◌∙◌, sym, ap}
use Rattle.cluster_routing.specs.Seen.{address}
use Rattle.cluster_calls.specs.Links.World.{nodes}
use Rattle.cluster_calls.proofs.LinkLaws.LinkPlaces.{placed}
use Rattle.cluster_calls.proofs.LinkLaws.Nodes.{first_placed}
use Rattle.cluster_steps.proofs.links.is_among.Goals as goal

pub returns : goal.returns
returns g c =
    c.is_some.ensures ∙ ap is_some (c.first_of.ensures.first ∙ first_placed g.L.ConnectionLike.seen c.args.links.now (address c.args.node.now)) ∙ sym (placed (nodes g.L.ConnectionLike.seen c.args.links.now) (address c.args.node.now))
