-- Runs of calls of a proxy, each call with what it answered.
use Rattle.std.specs.Prelude.{◌≡◌, ℕ, ◌<◌, ◌≤◌, Bool, true, false, List, [], None, ◌⊎◌, length}
use Rattle.proxy_core.specs.declared.outcome.Outcome.{Outcome}
use Rattle.proxy_core.specs.declared.queue.Entry.{Entry}
use Rattle.proxy_core.specs.declared.refusal.JoinRefusal.{JoinRefusal}
use Rattle.proxy_core.specs.declared.refusal.Refusal.{Refusal}
use Rattle.proxy_core.specs.declared.play.Answer.{Answer}
use Rattle.proxy_core.specs.declared.play.Answer.TheVariants as answers
use Rattle.proxy_core.specs.declared.play.Call.{Call}
use Rattle.proxy_core.specs.declared.play.Call.TheVariants as calls
use Rattle.proxy_core.specs.Queue.{first_reply}
use Rattle.proxy_core.specs.Batch.{Asks}
use Rattle.proxy_core.specs.Guests.{queue_at, is_open_at, free_from, queue_bytes}
use Rattle.proxy_core.specs.Runs.{MakesOneBy, PlaysBy, RunsBy}
use Rattle.proxy_core.specs.State.{State}
use Rattle.proxy_core.specs.Moves.{IsPutDue, IsJoinDue, Renews, Puts, Takes, Settles}

-- A call that was made. Of a turn there is what was asked, each command beside its guest, and the outcomes.
pub data Step (C V : Type 0) : Type 0 where
  Joined : ℕ → Step C V
  NotJoined : JoinRefusal → Step C V
  Put : ℕ → Entry C V → Step C V
  NotPut : ℕ → Entry C V → Refusal → Step C V
  Took : ℕ → V → Step C V
  NotTook : ℕ → Step C V
  Left : ℕ → Step C V
  Turned : List (ℕ × C) → List (Outcome V) → Step C V
  NotTurned : Step C V

-- which call that is
abbrev pub call_of : {C V : Type 0} → Step C V → Call C V
call_of (Joined g) = calls.Join
call_of (NotJoined why) = calls.Join
call_of (Put g e) = calls.Put g e
call_of (NotPut g e why) = calls.Put g e
call_of (Took g v) = calls.Take g
call_of (NotTook g) = calls.Take g
call_of (Left g) = calls.Leave g
call_of (Turned batch outcomes) = calls.Turn
call_of NotTurned = calls.Turn

-- what it answers
abbrev pub answer_of : {C V : Type 0} → Step C V → Answer C V
answer_of (Joined g) = answers.Joined g
answer_of (NotJoined why) = answers.NotJoined why
answer_of (Put g e) = answers.Put
answer_of (NotPut g e why) = answers.Refused (record { why = why; value = e })
answer_of (Took g v) = answers.Took v
answer_of (NotTook g) = answers.Nothing
answer_of (Left g) = answers.Left
answer_of (Turned batch outcomes) = answers.Turned
answer_of NotTurned = answers.NoMemory

-- the same guests are there, within the same limits
abbrev pub SameGuests : {C V : Type 0} → State C V → State C V → Type 0
SameGuests old new = (new.openings ≡ old.openings) × (new.limits ≡ old.limits)

-- nothing has changed
abbrev pub Keeps : {C V : Type 0} → State C V → State C V → Type 0
Keeps old new = (new.queues ≡ old.queues) × SameGuests old new

-- what a call may do to the proxy, and to the servers, s before and s' after; commands and replies have
-- these bytes
abbrev pub Makes : {C V S : Type 0} → (C → C → Bool) → (C → ℕ) → (V → ℕ) → Asks S C V → Step C V → State C V
    → S → State C V → S → Type 0
Makes overlaps command reply asks (Joined g) old s new s' = (g ≡ free_from 0 old.openings)
    × (g < old.limits.guests) × Renews old new g true × (s' ≡ s)
Makes overlaps command reply asks (NotJoined why) old s new s' =
    IsJoinDue why old.openings old.limits.guests × Keeps old new × (s' ≡ s)
Makes overlaps command reply asks (Put g e) old s new s' = (is_open_at old.openings g ≡ true)
    × Puts old.queues new.queues g e × (length (queue_at new.queues g) ≤ old.limits.share.entries)
    × (queue_bytes command reply (queue_at new.queues g) ≤ old.limits.share.bytes)
    × SameGuests old new × (s' ≡ s)
Makes overlaps command reply asks (NotPut g e why) old s new s' =
    IsPutDue command reply old.limits.share (queue_at old.queues g) e (is_open_at old.openings g) why
    × Keeps old new × (s' ≡ s)
Makes overlaps command reply asks (Took g v) old s new s' =
    Takes old.queues new.queues g v × SameGuests old new × (s' ≡ s)
Makes overlaps command reply asks (NotTook g) old s new s' =
    (first_reply (queue_at old.queues g) ≡ None) × Keeps old new × (s' ≡ s)
Makes overlaps command reply asks (Left g) old s new s' = Renews old new g false × (s' ≡ s)
Makes overlaps command reply asks (Turned batch outcomes) old s new s' = asks s batch outcomes s'
    × (length outcomes ≡ length batch) × Settles overlaps old.queues new.queues batch outcomes
    × SameGuests old new
Makes overlaps command reply asks NotTurned old s new s' = Keeps old new × ((s' ≡ s) ⊎ asks s [] [] s')

-- a call was made, and answered this
abbrev pub MakesOne : {C V S : Type 0} → (C → C → Bool) → (C → ℕ) → (V → ℕ) → Asks S C V → Call C V
    → Answer C V → State C V → S → State C V → S → Type 0
MakesOne overlaps command reply asks = MakesOneBy (Makes overlaps command reply asks) call_of answer_of

-- one call after another
abbrev pub Runs : {C V S : Type 0} → (C → C → Bool) → (C → ℕ) → (V → ℕ) → Asks S C V → List (Step C V)
    → State C V → S → State C V → S → Type 0
Runs overlaps command reply asks = RunsBy (Makes overlaps command reply asks)

-- The first of the calls were made, one after another, and the others are left; what each answered stands
-- behind the answers before.
abbrev pub Plays : {C V S : Type 0} → (C → C → Bool) → (C → ℕ) → (V → ℕ) → Asks S C V → List (Call C V)
    → List (Call C V) → List (Answer C V) → List (Answer C V) → State C V → S → State C V → S → Type 0
Plays overlaps command reply asks = PlaysBy (Makes overlaps command reply asks) call_of answer_of
