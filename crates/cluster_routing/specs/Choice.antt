-- Which of a slot's nodes a request goes to (documentation of the crate `redis`).
use Rattle.std.specs.Prelude.{◌≡◌, ℕ, ◌%◌, Bool, true, List, [], ◌∷◌, length, slice_get, Contains, Option, Some, None, option_map, IsSomeAnd, ⊤}
use Rattle.std.specs.Borrow.{Bor}
use Rattle.cluster_routing.specs.Address.{Address}
use Rattle.cluster_routing.specs.SlotMap.{Nodes, SlotEntries, nodes_at}
use Rattle.cluster_routing.specs.Candidates.{Candidates, any_node, replicas_only, candidate_nodes}
use Rattle.cluster_routing.specs.declared.route.SlotAddr.{SlotAddr}
use Rattle.cluster_routing.specs.declared.route.Route.{Route}
use Rattle.cluster_routing.specs.declared.route.SlotAddr.TheVariants.{Master, ReplicaOptional, ReplicaRequired}

-- what a strategy may answer: which address it admits for which candidates
abbrev pub Strategy : Type 0
Strategy = Candidates → Address → Bool

-- what a strategy that is lent may answer
abbrev pub strategy_of : {S : Type 0} → (S → Strategy) → Option (Bor S) → Option Strategy
strategy_of admits strategy = option_map (λ s. admits s.now) strategy

-- the strategy admits the address, and it is one of the candidates
pub record IsAdmitted (admits : Strategy) (candidates : Candidates) (address : Address) : Type 0 where
  pub admitted : admits candidates address ≡ true
  pub candidate : Contains (candidate_nodes candidates) address

-- one of the replicas: by the strategy, else the one that the pick numbers, modulo their count
abbrev pub IsReplicaBy : Option Strategy → ℕ → ℕ → List Address → Address → Type 0
IsReplicaBy None slot pick replicas address = slice_get replicas (pick % length replicas) ≡ Some address
IsReplicaBy (Some admits) slot pick replicas address = IsAdmitted admits (replicas_only slot replicas) address

abbrev pub IsAnyBy : Option Strategy → ℕ → Nodes → Address → Type 0
IsAnyBy None slot nodes address = address ≡ nodes.primary
IsAnyBy (Some admits) slot nodes address = IsAdmitted admits (any_node slot nodes) address

-- among a primary and replicas
abbrev pub IsChosenAmong : Option Strategy → ℕ → SlotAddr → ℕ → Address → List Address → Address → Type 0
IsChosenAmong strategy slot role pick primary [] address = address ≡ primary
IsChosenAmong strategy slot Master pick primary (r ∷ rs) address = address ≡ primary
IsChosenAmong strategy slot ReplicaOptional pick primary (r ∷ rs) address = IsAnyBy strategy slot
    (record { primary = primary; replicas = r ∷ rs }) address
IsChosenAmong strategy slot ReplicaRequired pick primary (r ∷ rs) address = IsReplicaBy strategy slot pick
    (r ∷ rs) address

-- the address may be the one that a role leads to; without replicas it is the primary, and no strategy is
-- asked
abbrev pub IsChosen : Option Strategy → ℕ → SlotAddr → ℕ → Nodes → Address → Type 0
IsChosen strategy slot role pick nodes address =
    IsChosenAmong strategy slot role pick nodes.primary nodes.replicas address

-- what a route may lead to: nothing exactly where no range serves its slot
abbrev pub LeadsTo : Option Strategy → ℕ → SlotEntries → Route → Option Address → Type 0
LeadsTo strategy pick entries route None = nodes_at route.slot entries ≡ None
LeadsTo strategy pick entries route (Some address) = IsSomeAnd (nodes_at route.slot entries)
    (λ nodes. IsChosen strategy route.slot route.slot_addr pick nodes address)

-- what each of the routes may lead to, in their order
abbrev pub EachLeadsTo : Option Strategy → ℕ → SlotEntries → List Route → List (Option Address) → Type 0
EachLeadsTo strategy pick entries [] [] = ⊤
EachLeadsTo strategy pick entries (route ∷ routes) (address ∷ addresses) =
    LeadsTo strategy pick entries route address × EachLeadsTo strategy pick entries routes addresses
EachLeadsTo strategy pick entries _ _ = ⊥
