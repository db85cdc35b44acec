use Rattle.std.proofs.Common.{◌∙◌, ap}
use Rattle.cluster_routing.specs.Seen.{address}
use Rattle.cluster_calls.specs.Links.World.{nodes, place_at}
use Rattle.cluster_calls.proofs.LinkLaws.Nodes.{first_placed}
use Rattle.cluster_steps.proofs.links.Links.place_of.Goals as goal

pub returns-in_default-clause-place : goal.returns-in_default-clause-place
returns-in_default-clause-place g c =
    let seen = g.L.ConnectionLike.seen in
    let node = address c.args.node.now in
    c.first_of.ensures.first ∙ first_placed seen c.deref.result.now node ∙ ap (λ links. place_at (nodes seen links) node) c.deref.ensures.value
