-- Which nodes serve a slot (Redis Cluster specification, CLUSTER SLOTS).
use Rattle.std.specs.Prelude.{◌≡◌, ℕ, List, [], ◌∷◌, ◌++◌, Option, Some, None}
use Rattle.cluster_routing.specs.Address.{Address}
use Rattle.cluster_routing.specs.Ranges.{Entry, put, value_at}

-- the nodes that serve a range of slots
pub record Nodes : Type 0 where
  pub primary : Address
  pub replicas : List Address

-- the slots from start to last, and their nodes
pub record Range : Type 0 where
  pub start : ℕ
  pub last : ℕ
  pub nodes : Nodes

-- a map of slots: its entries by ascending distinct ends
abbrev pub SlotEntries : Type 0
SlotEntries = List (Entry Nodes)

abbrev pub entry_of : Range → Entry Nodes
entry_of r = (r.last, (r.start, r.nodes))

-- the map with these ranges put in, one after another
abbrev pub put_all : SlotEntries → List Range → SlotEntries
put_all entries [] = entries
put_all entries (r ∷ rs) = put_all (put entries (entry_of r)) rs

-- the nodes of a slot
abbrev pub nodes_at : ℕ → SlotEntries → Option Nodes
nodes_at slot entries = value_at slot entries

-- the replicas of nodes that may be there
abbrev pub replicas_if : Option Nodes → List Address
replicas_if None = []
replicas_if (Some nodes) = nodes.replicas

-- the replicas of a slot, none where no range serves it
abbrev pub replicas_at : ℕ → SlotEntries → List Address
replicas_at slot entries = replicas_if (nodes_at slot entries)

-- some first of the ranges are put in
pub record PutsSome (old : SlotEntries) (ranges : List Range) (new : SlotEntries) : Type 0 where
  pub done : List Range
  pub left : List Range
  pub split : ranges ≡ done ++ left
  pub puts : new ≡ put_all old done
