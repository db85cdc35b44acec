-- The nodes that a strategy for reads chooses among (documentation of the crate `redis`).
use Rattle.std.specs.Prelude.{ℕ, List, [], ◌∷◌, Option, Some, None}
use Rattle.cluster_routing.specs.Address.{Address}
use Rattle.cluster_routing.specs.SlotMap.{Nodes}

-- the nodes of a slot: all of them, or its replicas alone
pub data Candidates : Type 0 where
  any_node : (slot : ℕ) → Nodes → Candidates
  replicas_only : (slot : ℕ) → List Address → Candidates

abbrev pub candidate_nodes : Candidates → List Address
candidate_nodes (any_node slot nodes) = nodes.primary ∷ nodes.replicas
candidate_nodes (replicas_only slot replicas) = replicas

-- a slot's nodes, as a strategy is given them
pub record AnyNodeOf : Type 0 where
  pub slot : ℕ
  pub nodes : Nodes

-- a slot with its replicas, of which a strategy may choose
pub record ReplicasOf : Type 0 where
  pub slot : ℕ
  pub replicas : List Address

-- the slot whose nodes they are
abbrev pub candidate_slot : Candidates → ℕ
candidate_slot (any_node slot nodes) = slot
candidate_slot (replicas_only slot replicas) = slot

-- a list of one replica or more
abbrev pub some_replicas : List Address → Option (List Address)
some_replicas [] = None
some_replicas (a ∷ as') = Some (a ∷ as')
