use Rattle.std.proofs.Common.{◌≡◌, ◌∙◌, ◌++◌, ◌∷◌, [], true, ap, sym}
use Rattle.cluster_routing.specs.Seen.{address}
use Rattle.cluster_calls.specs.Links.World.{addresses_of, nodes}
use Rattle.cluster_steps.specs.LinkTable.{knows_all, knows_links}
use Rattle.cluster_steps.proofs.DistinctLinks.{are_repeated, distinct_behind}
use Rattle.cluster_steps.proofs.KnownLinks.{behind_known}
use Rattle.cluster_steps.proofs.links.Links.push_known.Goals as goal

pub invariant_of-self-2 : goal.invariant_of-self-2
invariant_of-self-2 g c =
    let links = c.args.self.now.nodes.items in
    let kept : links ≡ c.reserve.new.self.items = cc c.in_ok-reserve.ensures.items in
    let items : c.push_reserved.new.self.items ≡ links ++ (c.args.node, c.args.link) ∷ [] = cc in
    record { distinct = ap are_repeated items ∙ distinct_behind g.L.ConnectionLike.seen links c.args.node c.args.link c.args.self.now.distinct c.requires }

pub returns-clause-known : goal.returns-clause-known
returns-clause-known g c known =
    let seen = g.L.ConnectionLike.seen in
    let links = c.args.self.now.nodes.items in
    let kept : links ≡ c.reserve.new.self.items = cc c.in_ok-reserve.ensures.items in
    let items : c.push_reserved.new.self.items ≡ links ++ (c.args.node, c.args.link) ∷ [] = cc in
    let places = c.learn.new.self.places in
    let before : knows_links c.args.self.now.places c.reserve.new.self.items ≡ true = ap (knows_links c.args.self.now.places) (sym kept) ∙ known in
    c.renew_known.ensures.known (ap (knows_links places) items
    ∙ behind_known seen places links c.args.node c.args.link (ap (λ all. knows_all places (addresses_of (nodes seen all) ++ address c.args.node ∷ [])) kept ∙ c.learn.ensures.known before))
