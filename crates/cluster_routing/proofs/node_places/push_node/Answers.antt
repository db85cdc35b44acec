use Rattle.std.proofs.Common.{◌∙◌, Some, ap, map, slice_get, sym}
use Rattle.cluster_routing.specs.Seen.{address}
use Rattle.cluster_routing.proofs.NodePlaces.{node_of, there_by}
use Rattle.cluster_routing.proofs.OnceSorted.{put_there}
use Rattle.cluster_routing.proofs.Replies.{got}
use Rattle.cluster_routing.proofs.node_places.push_node.Goals as goal

pub returns-in-Some-get-clause-addresses : goal.returns-in-Some-get-clause-addresses
returns-in-Some-get-clause-addresses c =
    let at = got c.deref.result.now c.in-Some.index.now (Some c.in-Some-get.other) c.in-Some-get.ensures.lookup ∙ ap (λ ps. slice_get ps c.in-Some.index.now) c.deref.ensures.value in
    sym (put_there (address c.args.node.node.now) (map node_of c.args.placed.now.items) (there_by c.args.placed.now.items c.in-Some.index.now c.in-Some-get.other.now (address c.args.node.node.now) at (sym c.eq.ensures ∙ c.if-eq.true)))
