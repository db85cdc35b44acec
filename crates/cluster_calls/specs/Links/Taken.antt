-- Items that may have been taken.
use Rattle.std.specs.Prelude.{ℕ, List, Option, Some, None, slice_get}

-- the item at this place, where it is there
abbrev pub there : {T : Type 0} → Option (Option T) → Option T
there None = None
there (Some o) = o

-- the item at a place of a list from which some were taken
abbrev pub there_at : {T : Type 0} → List (Option T) → ℕ → Option T
there_at items i = there (slice_get items i)
