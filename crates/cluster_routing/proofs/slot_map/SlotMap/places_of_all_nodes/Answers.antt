use Rattle.std.proofs.Common.{◌≡◌, ◌∙◌, List, Some, ap, subst, map, take, arith}
use Rattle.std.proofs.lemmas.List.{take_all}
use Rattle.cluster_routing.specs.AllNodes.{all_nodes}
use Rattle.cluster_routing.specs.NodePlaces.{AreAt, node_at}
use Rattle.cluster_routing.specs.SlotMap.{SlotEntries}
use Rattle.cluster_routing.specs.declared.node_places.PlacedNode.{PlacedNode}
use Rattle.cluster_routing.proofs.NodePlaces.{found}
use Rattle.cluster_routing.proofs.slot_map.SlotMap.places_of_all_nodes.Goals as goal

pub returns : goal.returns
returns c =
    let placed : List PlacedNode = c.deref-node-items.result.now in
    let all : take c.nodes.node-index placed ≡ placed = take_all c.nodes.node-index placed (omega arith) in
    let same : placed ≡ c.in_ok-placed.placed.items = cc in
    let is : c.entries.result.now ≡ c.args.self.now = c.entries.ensures ∙ c.slot_ranges.ensures in
    let at : AreAt (node_at c.args.self.now) c.in_ok-placed_nodes.field-0.items = subst (λ (e : SlotEntries). AreAt (node_at e) c.in_ok-placed_nodes.field-0.items) is c.in_ok-placed_nodes.ensures.places in
    ap (map (node_at c.args.self.now)) (c.nodes.invariant ∙ ap (map (λ p. p.place)) (all ∙ same))
    ∙ found (node_at c.args.self.now) c.in_ok-placed.placed.items (c.in_ok-placed.ensures.places (node_at c.args.self.now) at)
    ∙ ap (map (λ a. Some a)) (c.in_ok-placed.ensures.addresses ∙ c.in_ok-placed_nodes.ensures.addresses ∙ ap (λ (e : SlotEntries). all_nodes e) is)
