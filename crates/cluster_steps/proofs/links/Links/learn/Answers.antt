use Rattle.std.proofs.Common.{◌∙◌, ◌++◌, ◌∷◌, [], ap, sym}
use Rattle.cluster_routing.specs.Seen.{address}
use Rattle.cluster_steps.specs.LinkTable.{knows_all}
use Rattle.cluster_steps.proofs.KnownLinks.{learned, of_links, of_nodes}
use Rattle.cluster_steps.proofs.links.Links.learn.Goals as goal

pub returns-in-Some-clause-known : goal.returns-in-Some-clause-known
returns-in-Some-clause-known g c known =
    let links = c.args.self.now.nodes.items in
    ap (λ as'. knows_all c.ok.result (as' ++ address c.args.node.now ∷ [])) (of_nodes g.L.ConnectionLike.seen links)
    ∙ learned c.args.self.now.places c.in-Some.table c.with_node.result c.ok.result (of_links links) (address c.args.node.now) known (sym c.take.ensures.value ∙ c.in-Some.is) c.with_node.ensures c.ok.ensures.value
