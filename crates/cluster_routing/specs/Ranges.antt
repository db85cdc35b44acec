-- Ranges of slots with values, as a list by ascending distinct ends (Redis Cluster specification).
use Rattle.std.specs.Prelude.{ℕ, ◌<◌, nat_lt, nat_le, ◌==◌, if◌then◌else◌, List, [], ◌∷◌, Option, Some, None, option_and_then, ⊤}

-- the end of a range, and with it the start and the value
abbrev pub Entry : Type 0 → Type 0
Entry V = ℕ × (ℕ × V)

-- each end is below the later ones
abbrev pub IsBelowEnds : {V : Type 0} → ℕ → List (Entry V) → Type 0
IsBelowEnds e [] = ⊤
IsBelowEnds e (q ∷ qs) = e < q.0

-- the ends ascend, and so are distinct
abbrev pub IsAscending : {V : Type 0} → List (Entry V) → Type 0
IsAscending [] = ⊤
IsAscending (q ∷ qs) = IsBelowEnds q.0 qs × IsAscending qs

-- the entries with one more, in place of the one with an equal end
abbrev pub put : {V : Type 0} → List (Entry V) → Entry V → List (Entry V)
put [] e = e ∷ []
put (q ∷ qs) e = if nat_lt e.0 q.0 then e ∷ (q ∷ qs) else (if e.0 == q.0 then e ∷ qs else q ∷ put qs e)

-- the first entry whose end is not below the slot
abbrev pub first_from : {V : Type 0} → ℕ → List (Entry V) → Option (Entry V)
first_from slot [] = None
first_from slot (q ∷ qs) = if nat_lt q.0 slot then first_from slot qs else Some q

-- its value, if it begins early enough
abbrev pub value_if_begun : {V : Type 0} → ℕ → Entry V → Option V
value_if_begun slot q = if nat_le q.1.0 slot then Some q.1.1 else None

-- the value that serves a slot
abbrev pub value_at : {V : Type 0} → ℕ → List (Entry V) → Option V
value_at slot entries = option_and_then (value_if_begun slot) (first_from slot entries)
