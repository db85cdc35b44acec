-- The order of routes and of their parts, and what they feed a hasher (documentation of Rust's `Ord` and
-- `Hash`).
use Rattle.std.specs.Prelude.{ℕ, List, ◌++◌, pos}
use Rattle.std.specs.Hash as fed
use Rattle.std.specs.Ordering.{nat_cmp, ordering_then}
use Rattle.std.specs.declared.cmp.Ordering.{Ordering}
use Rattle.cluster_routing.specs.declared.route.Route.{Route}
use Rattle.cluster_routing.specs.declared.route.SlotAddr.{SlotAddr}
use Rattle.cluster_routing.specs.declared.route.SlotAddr.TheVariants.{Master, ReplicaOptional, ReplicaRequired}
use Rattle.cluster_routing.specs.declared.slot.Slot.{Slot}

-- the place of a role among the roles
abbrev pub role_place : SlotAddr → ℕ
role_place Master = 0
role_place ReplicaOptional = 1
role_place ReplicaRequired = 2

-- the order of roles, by their places
abbrev pub role_cmp : SlotAddr → SlotAddr → Ordering
role_cmp a b = nat_cmp (role_place a) (role_place b)

-- by the slot, then by the role
abbrev pub route_cmp : Route → Route → Ordering
route_cmp a b = ordering_then (nat_cmp a.slot b.slot) (role_cmp a.slot_addr b.slot_addr)

-- what a slot feeds a hasher: its number
abbrev pub hashed_slot : Slot → List (List ℕ)
hashed_slot s = fed.u16 s.number

-- what a role feeds a hasher: its place
abbrev pub hashed_role : SlotAddr → List (List ℕ)
hashed_role a = fed.isize (pos (role_place a))

-- what a route feeds a hasher: its slot, then its role
abbrev pub hashed_route : Route → List (List ℕ)
hashed_route r = fed.u16 r.slot ++ hashed_role r.slot_addr
