-- How much a proxy holds over a run of calls.
use Rattle.std.specs.Prelude.{◌≡◌, ℕ, ◌<◌, ◌≤◌, Bool, true, List, length}
use Rattle.proxy_core.specs.Batch.{Asks}
use Rattle.proxy_core.specs.Guests.{queue_at, is_open_at}
use Rattle.proxy_core.specs.State.{State}
use Rattle.proxy_core.specs.Steps.{Step, Runs}

-- no guest has more entries than a share, and no number is above the limit; so all guests together hold
-- no more entries than so many shares
abbrev pub IsWithin : {C V : Type 0} → State C V → Type 0
IsWithin state = ((g : ℕ) → length (queue_at state.queues g) ≤ state.limits.share.entries)
    × ((g : ℕ) → is_open_at state.openings g ≡ true → g < state.limits.guests)

-- a run that begins within the limits ends within them
abbrev pub StaysWithin : {C V S : Type 0} → (C → C → Bool) → (C → ℕ) → (V → ℕ) → Asks S C V → Type 0
StaysWithin {C} {V} {S} overlaps command reply asks =
    (steps : List (Step C V)) (old : State C V) (s : S) (new : State C V) (s' : S)
    → Runs overlaps command reply asks steps old s new s' → IsWithin old → IsWithin new
