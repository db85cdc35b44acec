-- Where nodes stand in a map of slots.
use Rattle.std.specs.Prelude.{◌≡◌, List, Option, Some, map, option_and_then, slice_get}
use Rattle.std.specs.List.{All}
use Rattle.cluster_routing.specs.Address.{Address}
use Rattle.cluster_routing.specs.AllNodes.{all_nodes, node_list}
use Rattle.cluster_routing.specs.Ranges.{Entry}
use Rattle.cluster_routing.specs.Seen.{address}
use Rattle.cluster_routing.specs.SlotMap.{Nodes, SlotEntries}
use Rattle.cluster_routing.specs.declared.node_places.NodePlace.{NodePlace}
use Rattle.cluster_routing.specs.declared.node_places.PlacedNode.{PlacedNode}

-- the node that stands at a place: of a range by its number, the primary at 0 and the replicas behind it
abbrev pub node_at : SlotEntries → NodePlace → Option Address
node_at entries place = option_and_then (λ (e : Entry Nodes). slice_get (node_list e.1.1) place.node)
    (slice_get entries place.range)

-- each address stands at the place beside it
abbrev pub AreAt : (NodePlace → Option Address) → List PlacedNode → Type 0
AreAt at placed = All (λ (p : PlacedNode). at p.place ≡ Some (address p.node.now)) placed

-- where all nodes stand, in the order of their addresses
abbrev pub AreOfAll : SlotEntries → List NodePlace → Type 0
AreOfAll entries places = map (node_at entries) places ≡ map (λ a. Some a) (all_nodes entries)
