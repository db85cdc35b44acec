-- Places in a list of ranges, counted from 0.
use Rattle.std.specs.Prelude.{ℕ, suc, nat_lt, ◌==◌, if◌then◌else◌, Bool, false, List, [], ◌∷◌, Option, Some, None}
use Rattle.cluster_routing.specs.Ranges.{Entry}

-- the place of the first entry whose end is not below the slot; behind the last where there is none
abbrev pub place_from : {V : Type 0} → ℕ → List (Entry V) → ℕ
place_from slot [] = 0
place_from slot (q ∷ qs) = if nat_lt q.0 slot then suc (place_from slot qs) else 0

-- whether an entry is there, and ends at the slot
abbrev pub ends_at : {V : Type 0} → ℕ → Option (Entry V) → Bool
ends_at slot None = false
ends_at slot (Some q) = q.0 == slot
