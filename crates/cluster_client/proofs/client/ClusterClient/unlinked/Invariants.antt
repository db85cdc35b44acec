use Rattle.std.specs.Prelude.{◌++◌, filter, not}
use Rattle.std.proofs.Common.{◌≡◌, map}
use Rattle.cluster_routing.specs.Seen.{address, addresses}
use Rattle.cluster_calls.specs.Links.World.{is_linked, nodes, open_links}
use Rattle.cluster_client.specs.Relinks.{unlinked_nodes}
use Rattle.cluster_client.specs.Whole.{whole}
use Rattle.cluster_client.proofs.client.ClusterClient.unlinked.Given as goal

abbrev pub invariant-nodes : goal.invariant-nodes
invariant-nodes g l =
    addresses l.unlinked.items ++ filter (λ a. not (is_linked (open_links (nodes g.L.ConnectionLike.seen l.fn.self.links.nodes.items)) a)) (map (λ a. address a.now) l.node-iterator.rest.items)
    ≡ unlinked_nodes (whole g.L.ConnectionLike.seen l.fn.self)
