-- Which commands of a queue wait on, told before it is settled.
use Rattle.std.specs.Prelude.{◌≡◌, Bool, cond, List, [], ◌∷◌, ◌++◌, ◌⊎◌}
use Rattle.proxy_core.specs.declared.outcome.Outcome.{Outcome}
use Rattle.proxy_core.specs.declared.queue.Entry.{Entry}
use Rattle.proxy_core.specs.declared.queue.Entry.TheVariants.{Waits, Reads}
use Rattle.proxy_core.specs.Fates.{may_be_done}
use Rattle.proxy_core.specs.Queue.{overtaken}

-- of each command that was not done, from the last to the first, whether it was overtaken
abbrev pub verdicts : {C V : Type 0} → (C → C → Bool) → List (Entry C V) → List (Outcome V) → List Bool
verdicts overlaps [] os = []
verdicts overlaps (Reads v ∷ es) os = verdicts overlaps es os
verdicts overlaps (Waits c ∷ es) [] = verdicts overlaps es []
verdicts overlaps (Waits c ∷ es) (o ∷ os) = cond (may_be_done o.fate) (verdicts overlaps es os)
    (verdicts overlaps es os ++ overtaken overlaps c es os ∷ [])

-- they are these, or nothing is told
abbrev pub MayTell : {C V : Type 0} → (C → C → Bool) → List Bool → List (Entry C V) → List (Outcome V)
    → Type 0
MayTell overlaps told es os = (told ≡ []) ⊎ (told ≡ verdicts overlaps es os)
