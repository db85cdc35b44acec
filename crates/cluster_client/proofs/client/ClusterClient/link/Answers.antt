use Rattle.std.specs.Prelude.{option_map}
use Rattle.std.proofs.Common.{◌∙◌, sym, ap}
use Rattle.cluster_routing.specs.Seen.{address}
use Rattle.cluster_calls.specs.Links.World.{Node, nodes}
use Rattle.cluster_calls.proofs.LinkLaws.LinkPlaces.{found, nowhere}
use Rattle.cluster_client.proofs.client.ClusterClient.link.Goals as goal

pub returns-in-Some : goal.returns-in-Some
returns-in-Some g c =
    let place = found (nodes g.L.ConnectionLike.seen c.args.self.now.links.nodes.items) (address c.args.node.now) c.in-Some.index (sym c.in-Some.ensures.place) in
    sym c.link.ensures ∙ ap (λ o. option_map (λ (n : Node). n.link) o) place.at ∙ sym place.link

pub returns-in-None : goal.returns-in-None
returns-in-None g c = sym (nowhere (nodes g.L.ConnectionLike.seen c.args.self.now.links.nodes.items) (address c.args.node.now) (sym c.in-None.ensures.place))
