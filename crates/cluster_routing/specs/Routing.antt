-- Where a command goes (Redis Cluster specification; documentation of the crate `redis`).
use Rattle.std.specs.Prelude.{ℕ, zero, suc, ◌+◌, ◌^◌, Bool, nat_eq, if◌then◌else◌, List, [], ◌∷◌, ◌++◌, map, drop, slice_get, Option, Some, None, option_map, option_and_then, codes}
use Rattle.resp_args.specs.declared.cmd.Arg.{Arg}
use Rattle.cluster_routing.specs.Address.{Address}
use Rattle.resp_core.specs.Numbers.{number_below}
use Rattle.cluster_routing.specs.HashSlot.{hash_slot}
use Rattle.cluster_routing.specs.Command.{Args, is_one_of, bytes_of, place_of, all_bytes, name_by}
use Rattle.cluster_routing.specs.Parts.{Tuple, width_of, in_tuples, tuples_of, argument_slots, groups}
use Rattle.cluster_routing.specs.Table.{Rule, split, key_after_streams, counted_key_or_random, counted_key, key_at, random, all_masters, all_nodes, nowhere, rule_of, is_family}
use Rattle.cluster_routing.specs.declared.route.Route.{Route}
use Rattle.cluster_routing.specs.declared.route.SlotAddr.{SlotAddr}
use Rattle.cluster_routing.specs.declared.route.SlotAddr.TheVariants.{Master, ReplicaOptional}
use Rattle.cluster_routing.specs.declared.policy.ResponsePolicy.{ResponsePolicy}
use Rattle.cluster_routing.specs.declared.policy.MultiSlotArgPattern.{MultiSlotArgPattern}

-- the nodes that a command goes to
pub data Destination : Type 0 where
  to_any_node : Destination
  to_any_primary : Destination
  to_route : Route → Destination
  to_address : Address → Destination
  to_all_nodes : Option ResponsePolicy → Destination
  to_all_primaries : Option ResponsePolicy → Destination
  -- each route with the places of its tuples among the arguments behind the word
  to_parts : List (Route × List ℕ) → MultiSlotArgPattern → Option ResponsePolicy → Destination

abbrev pub route_to : SlotAddr → ℕ → Route
route_to role slot = record { slot = slot; slot_addr = role }

-- to a key; nowhere where it is missing or a gap
abbrev pub to_key : SlotAddr → Option (Arg (List ℕ)) → Option Destination
to_key role key = option_map (λ bytes. to_route (route_to role (hash_slot bytes))) (bytes_of key)

-- to a key behind a count of keys, a number below 2^64; at a count of 0 elsewhere
abbrev pub to_key_by_count : SlotAddr → Option Destination → Option (Arg (List ℕ)) → Option ℕ
    → Option Destination
to_key_by_count role elsewhere key None = None
to_key_by_count role elsewhere key (Some zero) = elsewhere
to_key_by_count role elsewhere key (Some (suc n)) = to_key role key

abbrev pub to_counted_key : SlotAddr → Option Destination → Option (Arg (List ℕ)) → Option (Arg (List ℕ))
    → Option Destination
to_counted_key role elsewhere count key = to_key_by_count role elsewhere key
    (option_and_then (number_below (2 ^ 64)) (bytes_of count))

-- to the key behind a place
abbrev pub to_key_behind : SlotAddr → Args → Option ℕ → Option Destination
to_key_behind role args None = None
to_key_behind role args (Some place) = to_key role (slice_get args (place + 1))

-- to parts: nowhere without a tuple, to one slot where all keys have it
abbrev pub part_to : SlotAddr → ℕ × List ℕ → Route × List ℕ
part_to role g = (route_to role g.0, g.1)

-- the slots of parts, and parts with one more place: in the part of its route's slot, which goes last where
-- there is none
abbrev pub part_slots : List (Route × List ℕ) → List ℕ
part_slots parts = map (λ (p : Route × List ℕ). p.0.slot) parts

abbrev pub put_place : Route → ℕ → List (Route × List ℕ) → List (Route × List ℕ)
put_place route place [] = (route, place ∷ []) ∷ []
put_place route place (p ∷ ps) = if nat_eq route.slot p.0.slot then (p.0, p.1 ++ place ∷ []) ∷ ps else p
    ∷ put_place route place ps

abbrev pub to_some_parts : MultiSlotArgPattern → ResponsePolicy → List (Route × List ℕ) → Option Destination
to_some_parts pattern policy [] = None
to_some_parts pattern policy (p ∷ []) = Some (to_route p.0)
to_some_parts pattern policy (p ∷ q ∷ ps) = Some (to_parts (p ∷ q ∷ ps) pattern (Some policy))

-- nowhere where the last tuple is broken
abbrev pub to_tuples : SlotAddr → MultiSlotArgPattern → ResponsePolicy → Option (List Tuple)
    → Option Destination
to_tuples role pattern policy None = None
to_tuples role pattern policy (Some tuples) = to_some_parts pattern policy
    (map (part_to role) (groups (argument_slots tuples)))

-- by all arguments, the word too
abbrev pub to_split : SlotAddr → MultiSlotArgPattern → ResponsePolicy → List (List ℕ) → Option Destination
to_split role pattern policy args = to_tuples role pattern policy
    (tuples_of (width_of pattern) (in_tuples pattern (drop 1 args)))

abbrev pub destination_by : SlotAddr → Args → Rule → Option Destination
destination_by role args (split pattern policy) = option_and_then (to_split role pattern policy)
    (all_bytes args)
destination_by role args key_after_streams = to_key_behind role args (place_of (codes "STREAMS") args)
destination_by role args (counted_key_or_random i) = to_counted_key role (Some to_any_node) (slice_get args i)
    (slice_get args (i + 1))
destination_by role args (counted_key i) = to_counted_key role None (slice_get args i)
    (slice_get args (i + 1))
destination_by role args (key_at i) = to_key role (slice_get args i)
destination_by role args random = Some to_any_node
destination_by role args (all_masters policy) = Some (to_all_primaries (Some policy))
destination_by role args (all_nodes policy) = Some (to_all_nodes (Some policy))
destination_by role args nowhere = None

-- which nodes of a slot may serve a name: any where it is one of the names that only read
abbrev pub role_of : List ℕ → List (List ℕ) → SlotAddr
role_of name read_only = if is_one_of read_only name then ReplicaOptional else Master

abbrev pub destination_of_name : List ℕ → Bool → Args → List (List ℕ) → Option Destination
destination_of_name name family args read_only = destination_by (role_of name read_only) args
    (rule_of name family)

abbrev pub name_of_word : List ℕ → Args → List ℕ
name_of_word word args = name_by word (is_family word) (bytes_of (slice_get args 1))

abbrev pub destination_of_word : Option (List ℕ) → Args → List (List ℕ) → Option Destination
destination_of_word None args read_only = None
destination_of_word (Some word) args read_only = destination_of_name (name_of_word word args)
    (is_family word) args read_only

-- where a command goes, if anywhere, under a set of names that only read
unfoldable pub destination : Args → List (List ℕ) → Option Destination
destination args read_only = destination_of_word (bytes_of (slice_get args 0)) args read_only

-- the name of a command, as its first argument spells it
abbrev pub name_of : Args → Option (List ℕ)
name_of args = option_map (λ word. name_of_word word args) (bytes_of (slice_get args 0))
