-- What a guest sees of a run of calls.
use Rattle.std.specs.Prelude.{◌≡◌, ℕ, Bool, cond, ◌==◌, List, [], ◌∷◌, ◌++◌, map}
use Rattle.proxy_core.specs.declared.outcome.Outcome.{Outcome}
use Rattle.proxy_core.specs.declared.queue.Entry.{Entry}
use Rattle.proxy_core.specs.declared.queue.Entry.TheVariants.{Reads}
use Rattle.proxy_core.specs.Queue.{settled}
use Rattle.proxy_core.specs.Batch.{Asks, outcomes_of}
use Rattle.proxy_core.specs.Guests.{queue_at}
use Rattle.proxy_core.specs.State.{State}
use Rattle.proxy_core.specs.Steps.{Step, Joined, NotJoined, Put, NotPut, Took, NotTook, Left, Turned, NotTurned, Runs}

-- what happens to one guest: it has one entry more, its commands have these outcomes, or it joins or
-- leaves, and nothing is held of it
pub data Event (C V : Type 0) : Type 0 where
  Came : Entry C V → Event C V
  Told : List (Outcome V) → Event C V
  Renewed : Event C V

-- what happened to guest g
abbrev pub events_of : {C V : Type 0} → ℕ → List (Step C V) → List (Event C V)
events_of g [] = []
events_of g (Joined h ∷ steps) = cond (h == g) (Renewed ∷ events_of g steps) (events_of g steps)
events_of g (NotJoined why ∷ steps) = events_of g steps
events_of g (Put h e ∷ steps) = cond (h == g) (Came e ∷ events_of g steps) (events_of g steps)
events_of g (NotPut h e why ∷ steps) = events_of g steps
events_of g (Took h v ∷ steps) = events_of g steps
events_of g (NotTook h ∷ steps) = events_of g steps
events_of g (Left h ∷ steps) = cond (h == g) (Renewed ∷ events_of g steps) (events_of g steps)
events_of g (Turned batch outcomes ∷ steps) = Told (outcomes_of g batch outcomes) ∷ events_of g steps
events_of g (NotTurned ∷ steps) = events_of g steps

-- the replies that guest g took since it last joined or left, in order, behind those that it took before
abbrev pub taken_by : {C V : Type 0} → ℕ → List V → List (Step C V) → List V
taken_by g vs [] = vs
taken_by g vs (Joined h ∷ steps) = taken_by g (cond (h == g) [] vs) steps
taken_by g vs (NotJoined why ∷ steps) = taken_by g vs steps
taken_by g vs (Put h e ∷ steps) = taken_by g vs steps
taken_by g vs (NotPut h e why ∷ steps) = taken_by g vs steps
taken_by g vs (Took h v ∷ steps) = taken_by g (cond (h == g) (vs ++ v ∷ []) vs) steps
taken_by g vs (NotTook h ∷ steps) = taken_by g vs steps
taken_by g vs (Left h ∷ steps) = taken_by g (cond (h == g) [] vs) steps
taken_by g vs (Turned batch outcomes ∷ steps) = taken_by g vs steps
taken_by g vs (NotTurned ∷ steps) = taken_by g vs steps

-- what a guest sees, behind q: its own entries in its order, each told what became of it
abbrev pub sees : {C V : Type 0} → (C → C → Bool) → List (Entry C V) → List (Event C V) → List (Entry C V)
sees overlaps q [] = q
sees overlaps q (Came e ∷ events) = sees overlaps (q ++ e ∷ []) events
sees overlaps q (Told outcomes ∷ events) = sees overlaps (settled overlaps q outcomes) events
sees overlaps q (Renewed ∷ events) = sees overlaps [] events

-- the replies that a guest took, and behind them what is held of it
abbrev pub shown : {C V : Type 0} → List V → List (Entry C V) → List (Entry C V)
shown {C} {V} vs q = map (λ (v : V). Reads v) vs ++ q

-- Whatever the other guests do, and whichever calls fail: what a guest took, and behind it what the proxy
-- holds of it, is what it sees of its own entries and outcomes. Guest g had taken vs when the run began.
abbrev pub EachSeesItsOwn : {C V S : Type 0} → (C → C → Bool) → (C → ℕ) → (V → ℕ) → Asks S C V → Type 0
EachSeesItsOwn {C} {V} {S} overlaps command reply asks =
    (steps : List (Step C V)) (old : State C V) (s : S) (new : State C V) (s' : S)
    → Runs overlaps command reply asks steps old s new s' → (g : ℕ) (vs : List V)
    → shown (taken_by g vs steps) (queue_at new.queues g)
    ≡ sees overlaps (shown vs (queue_at old.queues g)) (events_of g steps)
