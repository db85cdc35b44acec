-- Runs of calls of a frontend, each call with what came of it.
use Rattle.std.specs.Prelude.{◌≡◌, ℕ, ◌<◌, ◌⊎◌, true, List, [], ◌∷◌, length, Some, None, Vec}
use Rattle.std.specs.Global.{Global}
use Rattle.resp_requests.specs.declared.limits.Limits.{Limits}
use Rattle.proxy_core.specs.declared.outcome.Outcome.{Outcome}
use Rattle.proxy_core.specs.declared.queue.Entry.{Entry}
use Rattle.proxy_core.specs.declared.refusal.JoinRefusal.{JoinRefusal}
use Rattle.proxy_core.specs.Batch.{Asks}
use Rattle.proxy_core.specs.Guests.{free_from}
use Rattle.proxy_core.specs.Moves.{Settles}
use Rattle.proxy_core.specs.Runs.{MakesOneBy, PlaysBy, RunsBy}
use Rattle.proxy_connection.specs.declared.progress.Progress.{Progress}
use Rattle.proxy_connection.specs.declared.progress.Progress.TheVariants as progresses
use Rattle.proxy_connection.specs.Ways.{Ways}
use Rattle.proxy_frontend.specs.declared.play.Answer.{Answer}
use Rattle.proxy_frontend.specs.declared.play.Answer.TheVariants as answers
use Rattle.proxy_frontend.specs.declared.play.Call.{Call}
use Rattle.proxy_frontend.specs.declared.play.Call.TheVariants as calls
use Rattle.proxy_frontend.specs.Histories.{Histories, joined, heard, entered, wrote, left, told}
use Rattle.proxy_frontend.specs.Moves.{IsJoinDue, IsConnected, IsUnderWayAt, RestsAt, HasNext, has_bytes}
use Rattle.proxy_frontend.specs.Serving.{AllGo}
use Rattle.proxy_frontend.specs.State.{State}

-- A call that was made. Of a guest that joined there is how its words are understood, of a command what came into the
-- guest's queue, and of a turn what was asked, each command beside its guest, and the outcomes.
pub data Step (T C V : Type 0) : Type 0 where
  Joined : ℕ → T → Step T C V
  NotJoined : T → JoinRefusal → Step T C V
  Heard : ℕ → Vec ℕ Global → Step T C V
  NotHeard : ℕ → Vec ℕ Global → Step T C V
  Entered : ℕ → Entry C V → Step T C V
  Rested : ℕ → Progress → Step T C V
  NotAdvanced : ℕ → Step T C V
  Wrote : ℕ → Vec ℕ Global → Step T C V
  WroteNothing : ℕ → Step T C V
  NotWritten : ℕ → Step T C V
  Left : ℕ → Step T C V
  Turned : List (ℕ × C) → List (Outcome V) → Step T C V
  NotTurned : Step T C V

-- which call that is
abbrev pub call_of : {T C V : Type 0} → Step T C V → Call T
call_of (Joined g t) = calls.Join t
call_of (NotJoined t why) = calls.Join t
call_of (Heard g bytes) = calls.Hear g bytes
call_of (NotHeard g bytes) = calls.Hear g bytes
call_of (Entered g e) = calls.Advance g
call_of (Rested g why) = calls.Advance g
call_of (NotAdvanced g) = calls.Advance g
call_of (Wrote g bytes) = calls.Write g
call_of (WroteNothing g) = calls.Write g
call_of (NotWritten g) = calls.Write g
call_of (Left g) = calls.Leave g
call_of (Turned batch outcomes) = calls.Turn
call_of NotTurned = calls.Turn

-- what it answers
abbrev pub answer_of : {T C V : Type 0} → Step T C V → Answer
answer_of (Joined g t) = answers.Joined g
answer_of (NotJoined t why) = answers.NotJoined why
answer_of (Heard g bytes) = answers.Heard
answer_of (NotHeard g bytes) = answers.NoMemory
answer_of (Entered g e) = answers.Advanced progresses.Taken
answer_of (Rested g why) = answers.Advanced why
answer_of (NotAdvanced g) = answers.NoMemory
answer_of (Wrote g bytes) = answers.Wrote bytes
answer_of (WroteNothing g) = answers.WroteNothing
answer_of (NotWritten g) = answers.NoMemory
answer_of (Left g) = answers.Left
answer_of (Turned batch outcomes) = answers.Turned
answer_of NotTurned = answers.NoMemory

-- What was seen of each guest behind it, where a guest sends under these limits: a step of one guest tells nothing of
-- another, and a turn tells each its own outcomes.
abbrev pub seen : {T C V : Type 0} → Limits → Step T C V → Histories T C V → Histories T C V
seen limits (Joined g t) = joined g limits t
seen limits (NotJoined t why) = λ histories. histories
seen limits (Heard g bytes) = heard g bytes.items
seen limits (NotHeard g bytes) = λ histories. histories
seen limits (Entered g e) = entered g e
seen limits (Rested g why) = λ histories. histories
seen limits (NotAdvanced g) = λ histories. histories
seen limits (Wrote g bytes) = wrote g bytes.items
seen limits (WroteNothing g) = λ histories. histories
seen limits (NotWritten g) = λ histories. histories
seen limits (Left g) = left g
seen limits (Turned batch outcomes) = told batch outcomes
seen limits NotTurned = λ histories. histories

-- and behind all steps
abbrev pub all_seen : {T C V : Type 0} → Limits → List (Step T C V) → Histories T C V → Histories T C V
all_seen limits [] histories = histories
all_seen limits (step ∷ steps) histories = all_seen limits steps (seen limits step histories)

-- what it says of a frontend, before and after, and of the servers
abbrev pub Says : {T C V S : Type 0} → Ways T C V → (C → ℕ) → (V → ℕ) → Asks S C V → Step T C V → State T C V → S
    → State T C V → S → Type 0
Says w command reply asks (Joined g t) old s new s' =
    (g ≡ free_from 0 old.proxy.openings) × (g < old.proxy.limits.guests) × (s' ≡ s)
Says w command reply asks (NotJoined t why) old s new s' = IsJoinDue old why × (s' ≡ s)
Says w command reply asks (Heard g bytes) old s new s' = s' ≡ s
Says w command reply asks (NotHeard g bytes) old s new s' =
    IsConnected old g × (0 < length bytes.items) × (s' ≡ s)
Says w command reply asks (Entered g e) old s new s' = IsConnected old g × (s' ≡ s)
Says w command reply asks (Rested g why) old s new s' = RestsAt w command reply old new g why × (s' ≡ s)
Says w command reply asks (NotAdvanced g) old s new s' =
    IsConnected old g × IsUnderWayAt w command reply old new g × (s' ≡ s)
Says w command reply asks (Wrote g bytes) old s new s' = HasNext w old g (λ next. next ≡ Some bytes.items) × (s' ≡ s)
Says w command reply asks (WroteNothing g) old s new s' = HasNext w old g (λ next. next ≡ None) × (s' ≡ s)
Says w command reply asks (NotWritten g) old s new s' = HasNext w old g (λ next. has_bytes next ≡ true) × (s' ≡ s)
Says w command reply asks (Left g) old s new s' = s' ≡ s
Says w command reply asks (Turned batch outcomes) old s new s' = asks s batch outcomes s'
    × (length outcomes ≡ length batch) × Settles w.overlaps old.proxy.queues new.proxy.queues batch outcomes
Says w command reply asks NotTurned old s new s' = (s' ≡ s) ⊎ asks s [] [] s'

-- the limits stay
abbrev pub SameLimits : {T C V : Type 0} → State T C V → State T C V → Type 0
SameLimits old new = (new.limits ≡ old.limits) × (new.proxy.limits ≡ old.proxy.limits)

-- what a call may do
abbrev pub Makes : {T C V S : Type 0} → Ways T C V → (C → ℕ) → (V → ℕ) → Asks S C V → Step T C V → State T C V → S
    → State T C V → S → Type 0
Makes w command reply asks step old s new s' = AllGo w old new (seen old.limits step) × SameLimits old new
    × Says w command reply asks step old s new s'

-- a call was made, and answered this
abbrev pub MakesOne : {T C V S : Type 0} → Ways T C V → (C → ℕ) → (V → ℕ) → Asks S C V → Call T → Answer
    → State T C V → S → State T C V → S → Type 0
MakesOne w command reply asks = MakesOneBy (Makes w command reply asks) call_of answer_of

-- one call after another
abbrev pub Runs : {T C V S : Type 0} → Ways T C V → (C → ℕ) → (V → ℕ) → Asks S C V → List (Step T C V) → State T C V
    → S → State T C V → S → Type 0
Runs w command reply asks = RunsBy (Makes w command reply asks)

-- The first of the calls were made, one after another, and the others are left; what each answered stands behind the
-- answers before; and whatever was seen of each guest before, it was seen then what the steps tell.
pub record Plays {T C V S : Type 0} (w : Ways T C V) (command : C → ℕ) (reply : V → ℕ) (asks : Asks S C V)
    (calls left : List (Call T)) (before after : List Answer) (old : State T C V) (s : S) (new : State T C V) (s' : S)
    : Type 0 where
  pub plays : PlaysBy (Makes w command reply asks) call_of answer_of calls left before after old s new s'
  pub serves : AllGo w old new (all_seen old.limits plays.steps)
