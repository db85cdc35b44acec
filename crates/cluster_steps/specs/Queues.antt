-- Queues by places.
use Rattle.std.specs.Prelude.{ℕ, ◌==◌, if◌then◌else◌, List, [], ◌∷◌, Option, Some, None, slice_get}
use Rattle.cluster_steps.specs.declared.drawn.Answered.{Answered as CodeAnswered}

-- what came from a place
abbrev pub items_in : {T : Type 0} → CodeAnswered T → List T
items_in a = a.items.items

abbrev pub list_or_none : {T : Type 0} → Option (List T) → List T
list_or_none None = []
list_or_none (Some xs) = xs

-- the queue of a place
abbrev pub queue_in : {T : Type 0} → List (List T) → ℕ → List T
queue_in queues k = list_or_none (slice_get queues k)

-- the queues with each of these put at its place, one after another
abbrev pub queued : {T : Type 0} → (ℕ → List T) → List (ℕ × List T) → ℕ → List T
queued queues [] = queues
queued queues (a ∷ answers) = queued (λ n. if n == a.0 then a.1 else queues n) answers

-- empty queues
abbrev pub no_queues : {T : Type 0} → ℕ → List T
no_queues n = []
