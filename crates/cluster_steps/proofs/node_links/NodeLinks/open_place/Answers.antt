use Rattle.std.specs.Prelude.{option_map, slice_get}
use Rattle.std.proofs.Common.{◌≡◌, ◌∙◌, ℕ, Bool, List, Some, sym, ap}
use Rattle.cluster_routing.specs.Address.{Address}
use Rattle.cluster_routing.specs.Seen.{address}
use Rattle.cluster_calls.specs.Links.World.{Node, is_linked, open_links, place_at}
use Rattle.cluster_calls.proofs.LinkLaws.LinkPlaces.{found, linked_there, unlinked_nowhere}
use Rattle.cluster_steps.proofs.node_links.NodeLinks.open_place.Goals as goal

open_by : (ns : List Node) (a : Address) (index : ℕ) (open' : Bool) → place_at ns a ≡ Some index → option_map (λ (node : Node). node.link.usable) (slice_get ns index) ≡ Some open'
    → is_linked (open_links ns) a ≡ open'
open_by ns a index open' place told =
    let there = found ns a index place in
    let same : Some there.node.link.usable ≡ Some open' = ap (λ o. option_map (λ (node : Node). node.link.usable) o) (sym there.at) ∙ told in
    linked_there ns a index there.node open' place there.at (let e = same in cc)

pub returns-in_default-clause-place : goal.returns-in_default-clause-place
returns-in_default-clause-place g c = unlinked_nowhere (g.Self.NodeLinks.nodes c.args.self.now) (address c.args.node.now) (sym c.in_default.ensures.place)

pub returns-then-is_open_at-clause-place : goal.returns-then-is_open_at-clause-place
returns-then-is_open_at-clause-place g c = record {
  place = sym c.in-Some.ensures.place;
  linked = open_by (g.Self.NodeLinks.nodes c.args.self.now) (address c.args.node.now) c.in-Some.link _ (sym c.in-Some.ensures.place) c.is_open_at.ensures ∙ c.if-is_open_at.true;
}

pub returns-else-is_open_at-clause-place : goal.returns-else-is_open_at-clause-place
returns-else-is_open_at-clause-place g c =
    open_by (g.Self.NodeLinks.nodes c.args.self.now) (address c.args.node.now) c.in-Some.link _ (sym c.in-Some.ensures.place) c.is_open_at.ensures ∙ c.if-is_open_at.false
