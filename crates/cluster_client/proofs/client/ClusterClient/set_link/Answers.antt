use Rattle.std.proofs.Common.{sym, ap}
use Rattle.cluster_routing.specs.Seen.{address}
use Rattle.cluster_calls.specs.Links.World.{nodes}
use Rattle.cluster_calls.proofs.LinkLaws.LinkPlaces.{nowhere}
use Rattle.cluster_client.specs.Whole.{whole}
use Rattle.cluster_client.proofs.Relinking.{added, gave_way, replaced}
use Rattle.cluster_client.proofs.client.ClusterClient.set_link.Goals as goal

pub returns-in-Some-clause-put : goal.returns-in-Some-clause-put
returns-in-Some-clause-put g c =
    ap (λ ns. record (whole g.L.ConnectionLike.seen c.args.self.now) { nodes = ns })
    (replaced (nodes g.L.ConnectionLike.seen c.args.self.now.links.nodes.items) _ (address c.args.node) c.in-Some.index _ _ (sym c.in-Some.ensures.place) c.replace.ensures)

pub returns-in-Some-clause-old : goal.returns-in-Some-clause-old
returns-in-Some-clause-old g c =
    gave_way (nodes g.L.ConnectionLike.seen c.args.self.now.links.nodes.items) _ (address c.args.node) c.in-Some.index _ _ (sym c.in-Some.ensures.place) c.replace.ensures

pub returns-in_ok-push-in-None-clause-put : goal.returns-in_ok-push-in-None-clause-put
returns-in_ok-push-in-None-clause-put g c =
    rw c.in_ok-push-in-None.ensures.put
    (ap (λ ns. record (whole g.L.ConnectionLike.seen c.args.self.now) { nodes = ns })
    (added g.L.ConnectionLike.seen c.args.self.now.links.nodes.items c.args.node c.args.link (sym c.in-None.ensures.place)))

pub returns-in_ok-push-in-None-clause-old : goal.returns-in_ok-push-in-None-clause-old
returns-in_ok-push-in-None-clause-old g c = sym (nowhere (nodes g.L.ConnectionLike.seen c.args.self.now.links.nodes.items) (address c.args.node) (sym c.in-None.ensures.place))
