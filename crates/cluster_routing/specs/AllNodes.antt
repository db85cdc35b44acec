-- The addresses of a map of slots, each once, in their order.
use Rattle.std.specs.Prelude.{List, [], ◌∷◌, fold, map, flat_map}
use Rattle.std.specs.Ordering.{match_ordering}
use Rattle.cluster_routing.specs.Address.{Address, address_cmp}
use Rattle.cluster_routing.specs.SlotMap.{Nodes, SlotEntries}

-- an address put into its place among ascending ones, unless it is there
abbrev pub put_address : Address → List Address → List Address
put_address a [] = a ∷ []
put_address a (b ∷ bs) = match_ordering (address_cmp a b) (a ∷ b ∷ bs) (b ∷ bs) (b ∷ put_address a bs)

-- more addresses put in, one after another
abbrev pub put_addresses : List Address → List Address → List Address
put_addresses sorted more = fold (λ s a. put_address a s) sorted more

-- each address once, ascending
abbrev pub ascending : List Address → List Address
ascending addresses = put_addresses [] addresses

-- the nodes of the ranges
abbrev pub node_sets : SlotEntries → List Nodes
node_sets entries = map (λ e. e.1.1) entries

-- a range's primary, and behind it its replicas
abbrev pub node_list : Nodes → List Address
node_list nodes = nodes.primary ∷ nodes.replicas

-- the primaries of a slot map, each once and ascending
abbrev pub all_primaries : SlotEntries → List Address
all_primaries entries = ascending (map (λ n. n.primary) (node_sets entries))

-- the nodes of a slot map, each once and ascending
abbrev pub all_nodes : SlotEntries → List Address
all_nodes entries = ascending (flat_map node_list (node_sets entries))
