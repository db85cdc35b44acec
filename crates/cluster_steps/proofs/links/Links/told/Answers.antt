use Rattle.std.specs.Prelude.{slice_get}
use Rattle.std.proofs.Common.{◌≡◌, ◌∙◌, Some, sym, ap}
use Rattle.cluster_routing.specs.Seen.{address}
use Rattle.cluster_routing.proofs.Replies.{got}
use Rattle.cluster_steps.proofs.DistinctLinks.{told}
use Rattle.cluster_steps.proofs.KnownLinks.{not_in_table}
use Rattle.cluster_steps.proofs.links.Links.told.Goals as goal

pub returns-in_default-get_index_of-clause-absent : goal.returns-in_default-get_index_of-clause-absent
returns-in_default-get_index_of-clause-absent g c is known =
    not_in_table g.L.ConnectionLike.seen c.args.self.now.nodes.items c.args.self.now.places c.in-Some.table (address c.args.node.now) known c.in-Some.is (sym c.in_default-get_index_of.ensures.found)

pub returns-in-Some-get-clause-place : goal.returns-in-Some-get-clause-place
returns-in-Some-get-clause-place g c =
    let links = c.args.self.now.nodes.items in
    let index = c.in-Some-get_index_of.index in
    let link = c.in-Some-get.link in
    let there : slice_get links index ≡ Some link.now =
    ap (λ ls. slice_get ls index) (sym c.deref.ensures.value) ∙ sym (got c.deref.result.now index (Some link) c.in-Some-get.ensures.lookup) in
    told g.L.ConnectionLike.seen links (address c.args.node.now) index link.now c.args.self.now.distinct there (sym c.eq.ensures ∙ c.if-eq.true)
