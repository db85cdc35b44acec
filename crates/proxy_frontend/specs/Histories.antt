-- What was seen of all guests.
use Rattle.std.specs.Prelude.{ℕ, cond, ◌==◌, List, Option, Some, None}
use Rattle.std.specs.Option.{option_map}
use Rattle.resp_requests.specs.declared.limits.Limits.{Limits}
use Rattle.proxy_core.specs.declared.outcome.Outcome.{Outcome}
use Rattle.proxy_core.specs.declared.queue.Entry.{Entry}
use Rattle.proxy_core.specs.Batch.{outcomes_of}
use Rattle.proxy_core.specs.Sees.{Came, Told}
use Rattle.proxy_connection.specs.History.{History, beginning, fed_more, written_more, then}

-- what was seen of each guest since it joined, by its number: none where no guest has it
abbrev pub Histories : Type 0 → Type 0 → Type 0 → Type 0
Histories T C V = ℕ → Option (History T C V)

-- no guest is there
abbrev pub nobody : {T C V : Type 0} → Histories T C V
nobody g = None

-- this becomes of what was seen of guest g; of every other guest the same was seen as before
abbrev pub only : {T C V : Type 0} → ℕ → (Option (History T C V) → Option (History T C V)) → Histories T C V
    → Histories T C V
only g more histories n = cond (g == n) (more (histories n)) (histories n)

-- guest g joined, under these limits, its words understood so
abbrev pub joined : {T C V : Type 0} → ℕ → Limits → T → Histories T C V → Histories T C V
joined g limits t = only g (λ o. Some (beginning limits t))

-- guest g sent these bytes
abbrev pub heard : {T C V : Type 0} → ℕ → List ℕ → Histories T C V → Histories T C V
heard g bytes = only g (option_map (λ h. fed_more h bytes))

-- this entry came into its queue
abbrev pub entered : {T C V : Type 0} → ℕ → Entry C V → Histories T C V → Histories T C V
entered g e = only g (option_map (λ h. then h (Came e)))

-- these bytes were written to it
abbrev pub wrote : {T C V : Type 0} → ℕ → List ℕ → Histories T C V → Histories T C V
wrote g bytes = only g (option_map (λ h. written_more h bytes))

-- guest g left
abbrev pub left : {T C V : Type 0} → ℕ → Histories T C V → Histories T C V
left g = only g (λ o. None)

-- a turn told each guest its own outcomes
abbrev pub told : {T C V : Type 0} → List (ℕ × C) → List (Outcome V) → Histories T C V → Histories T C V
told batch outcomes histories n = option_map (λ h. then h (Told (outcomes_of n batch outcomes))) (histories n)
