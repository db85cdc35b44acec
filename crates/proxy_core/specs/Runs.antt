-- Runs of steps, of a proxy or of what holds one, before the servers.
use Rattle.std.specs.Prelude.{◌≡◌, List, [], ◌∷◌, ◌++◌, map}

-- what a step may do: to what takes it, before and after, and to the servers, s before and s' after
abbrev pub Stepping : Type 0 → Type 0 → Type 0 → Type 1
Stepping Step State S = Step → State → S → State → S → Type 0

-- one step after another
abbrev pub RunsBy : {Step State S : Type 0} → Stepping Step State S → List Step → State → S → State → S → Type 0
RunsBy makes [] old s new s' = (new ≡ old) × (s' ≡ s)
RunsBy {Step} {State} {S} makes (step ∷ steps) old s new s' =
    (old1 : State) × (s1 : S) × makes step old s old1 s1 × RunsBy makes steps old1 s1 new s'

-- a call was made, and answered this
abbrev pub MakesOneBy : {Step State S Call Answer : Type 0} → Stepping Step State S → (Step → Call) → (Step → Answer)
    → Call → Answer → State → S → State → S → Type 0
MakesOneBy {Step} makes call_of answer_of call answer old s new s' =
    (step : Step) × (call ≡ call_of step) × (answer ≡ answer_of step) × makes step old s new s'

-- The first of the calls were made, one after another, and the others are left; what each answered stands
-- behind the answers before.
pub record PlaysBy {Step State S Call Answer : Type 0} (makes : Stepping Step State S) (call_of : Step → Call)
    (answer_of : Step → Answer) (calls left : List Call) (before after : List Answer)
    (old : State) (s : S) (new : State) (s' : S) : Type 0 where
  pub steps : List Step
  pub runs : RunsBy makes steps old s new s'
  pub first : calls ≡ map call_of steps ++ left
  pub answers : after ≡ before ++ map answer_of steps
