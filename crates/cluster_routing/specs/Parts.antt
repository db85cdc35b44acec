-- The parts of a split command: its tuples by the slot of their key.
use Rattle.std.specs.Prelude.{ℕ, zero, suc, ◌-◌, ◌/◌, ◌%◌, nat_eq, ◌==◌, if◌then◌else◌, List, [], ◌∷◌, map, flat_map, length, take, drop, Option, Some, None, option_map}
use Rattle.cluster_routing.specs.HashSlot.{hash_slot}
use Rattle.cluster_routing.specs.Lists.{firsts}
use Rattle.cluster_routing.specs.declared.policy.MultiSlotArgPattern.{MultiSlotArgPattern}
use Rattle.cluster_routing.specs.declared.policy.MultiSlotArgPattern.TheVariants.{KeysOnly, KeyValuePairs, KeysAndLastArg, KeyWithTwoArgTriples}

-- a key and what belongs to it
abbrev pub Tuple : Type 0
Tuple = List (List ℕ)

-- how many arguments a tuple has: a key alone, or with one or two that belong to it
abbrev pub width_of : MultiSlotArgPattern → ℕ
width_of KeysOnly = 1
width_of KeyValuePairs = 2
width_of KeysAndLastArg = 1
width_of KeyWithTwoArgTriples = 3

-- how many of so many arguments behind the word stand in tuples: all, or all but the last, which the parts
-- share
abbrev pub len_in_tuples : MultiSlotArgPattern → ℕ → ℕ
len_in_tuples KeysAndLastArg len = len - 1
len_in_tuples _ len = len

abbrev pub in_tuples : MultiSlotArgPattern → List (List ℕ) → List (List ℕ)
in_tuples pattern args = take (len_in_tuples pattern (length args)) args

-- so many tuples of so many arguments each
abbrev pub tuples_from : ℕ → ℕ → List (List ℕ) → List Tuple
tuples_from zero width args = []
tuples_from (suc n) width args = take width args ∷ tuples_from n width (drop width args)

-- how many tuples so many arguments are; none where the last one is broken
abbrev pub tuple_count : ℕ → ℕ → Option ℕ
tuple_count width len = if len % width == 0 then Some (len / width) else None

abbrev pub tuples_of : ℕ → List (List ℕ) → Option (List Tuple)
tuples_of width args = option_map (λ n. tuples_from n width args) (tuple_count width (length args))

-- the slot of a tuple, by its key
abbrev pub tuple_slot : Tuple → ℕ
tuple_slot [] = hash_slot []
tuple_slot (key ∷ more) = hash_slot key

-- for each argument the slot of its tuple
abbrev pub argument_slots : List Tuple → List ℕ
argument_slots tuples = flat_map (λ t. map (λ _. tuple_slot t) t) tuples

-- the places from n on that have the slot
abbrev pub places_from : ℕ → ℕ → List ℕ → List ℕ
places_from slot n [] = []
places_from slot n (s ∷ ss) = if slot == s then n ∷ places_from slot (suc n) ss
    else places_from slot (suc n) ss

abbrev pub group : List ℕ → ℕ → ℕ × List ℕ
group slots slot = (slot, places_from slot 0 slots)

-- each slot, in order of first appearance, with its places, which ascend
abbrev pub groups : List ℕ → List (ℕ × List ℕ)
groups slots = map (group slots) (firsts nat_eq slots)
