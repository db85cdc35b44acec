-- What the calls of a frontend do.
use Rattle.std.specs.Prelude.{◌≡◌, ℕ, ◌≤◌, ◌<◌, ◌⊎◌, Bool, true, false, not, cond, List, ◌++◌, length, Option, Some, None, MatchOption, is_some}
use Rattle.std.specs.Option.{option_map}
use Rattle.proxy_core.specs.declared.limits.Room.{Room}
use Rattle.proxy_core.specs.declared.outcome.Outcome.{Outcome}
use Rattle.proxy_core.specs.declared.queue.Entry.{Entry}
use Rattle.proxy_core.specs.declared.refusal.JoinRefusal.{JoinRefusal}
use Rattle.proxy_core.specs.declared.refusal.JoinRefusal.TheVariants as joins
use Rattle.proxy_core.specs.Batch.{Asks}
use Rattle.proxy_core.specs.Guests.{queue_at, is_open_at, free_from, entry_bytes, queue_bytes}
use Rattle.proxy_core.specs.Moves.{IsFull, Settles}
use Rattle.proxy_core.specs.Queue.{first_reply}
use Rattle.proxy_connection.specs.declared.connection.Connection.{Connection}
use Rattle.proxy_connection.specs.declared.pending.Pending.TheVariants as pendings
use Rattle.proxy_connection.specs.declared.progress.Progress.{Progress}
use Rattle.proxy_connection.specs.declared.progress.Progress.TheVariants.{Taken, Short, Full, Ended, NoGuest}
use Rattle.proxy_connection.specs.History.{History}
use Rattle.proxy_connection.specs.Moves.{IsUnderWay}
use Rattle.proxy_connection.specs.Serving.{IsCaughtUp, is_empty, is_ended, rest_of}
use Rattle.proxy_connection.specs.Ways.{Ways}
use Rattle.proxy_frontend.specs.Histories.{entered, wrote, told}
use Rattle.proxy_frontend.specs.Serving.{AllGo, AllStay, Always}
use Rattle.proxy_frontend.specs.State.{State, connection_at}

-- when a guest is refused so: all numbers below the limit are taken, or one of them is free, but no guest that left
-- had it, so that a place has to be made for its queue or for its connection
abbrev pub IsJoinDue : {T C V : Type 0} → State T C V → JoinRefusal → Type 0
IsJoinDue old joins.Full = old.proxy.limits.guests ≤ free_from 0 old.proxy.openings
IsJoinDue old joins.NoMemory = (free_from 0 old.proxy.openings < old.proxy.limits.guests)
    × ((length old.proxy.openings ≤ free_from 0 old.proxy.openings)
    ⊎ (length old.connections ≤ free_from 0 old.proxy.openings))

-- guest g has a connection
abbrev pub IsConnected : {T C V : Type 0} → State T C V → ℕ → Type 0
IsConnected state g = is_some (connection_at state.connections g) ≡ true

-- Why nothing came of looking for the next command of a guest, by its connection then, its queue, and what was seen of
-- it, in a share of which commands and replies take these bytes.
abbrev pub Rests : {T C V : Type 0} → Ways T C V → (C → ℕ) → (V → ℕ) → Room → Option (Connection T C V)
    → List (Entry C V) → Option (History T C V) → Progress → Type 0
Rests w command reply share (Some c) q (Some h) Short = IsCaughtUp w c h
Rests {T} {C} {V} w command reply share (Some c) q (Some h) Full = (e : Entry C V) × (c.pending ≡ pendings.Entry e)
    × IsFull share (length q) (queue_bytes command reply q) (entry_bytes command reply e)
Rests w command reply share (Some c) q (Some h) Ended = (c.pending ≡ pendings.Nothing) × (is_ended w c ≡ true)
Rests w command reply share None q None NoGuest = Unit {0}
Rests w command reply share _ q _ _ = ⊥

-- nothing came of it, and so it is why
abbrev pub RestsAt : {T C V : Type 0} → Ways T C V → (C → ℕ) → (V → ℕ) → State T C V → State T C V → ℕ → Progress
    → Type 0
RestsAt w command reply old new g why = (new.proxy.queues ≡ old.proxy.queues) × Always w old (λ histories.
    Rests w command reply old.proxy.limits.share (connection_at new.connections g) (queue_at old.proxy.queues g)
    (histories g) why)

-- what came of looking for the next command of guest g
abbrev pub Advances : {T C V : Type 0} → Ways T C V → (C → ℕ) → (V → ℕ) → State T C V → State T C V → ℕ → Progress
    → Type 0
Advances {T} {C} {V} w command reply old new g Taken =
    (e : Entry C V) × IsConnected old g × AllGo w old new (entered g e)
Advances w command reply old new g why = AllStay w old new × RestsAt w command reply old new g why

-- memory was wanted for the next command of guest g, of whose connection this stands now
abbrev pub IsUnderWayAt : {T C V : Type 0} → Ways T C V → (C → ℕ) → (V → ℕ) → State T C V → State T C V → ℕ → Type 0
IsUnderWayAt w command reply old new g = Always w old (λ histories. MatchOption (connection_at new.connections g) ⊥
    (λ c. IsUnderWay w command reply old.proxy.limits.share (is_open_at old.proxy.openings g)
    (queue_at old.proxy.queues g) c c.pending))

-- what is to be written next to a guest with this connection and this queue: what is left of the reply that is going
-- out, or else the next reply
abbrev pub next_bytes : {T C V : Type 0} → Ways T C V → Option (Connection T C V) → List (Entry C V) → Option (List ℕ)
next_bytes w None q = None
next_bytes w (Some c) q = cond (is_empty (rest_of w.written c.reply c.count)) (option_map w.written (first_reply q))
    (Some (rest_of w.written c.reply c.count))

-- there is something, and it has bytes
abbrev pub has_bytes : Option (List ℕ) → Bool
has_bytes None = false
has_bytes (Some bytes) = not (is_empty bytes)

-- to guest g there is this to be written next
abbrev pub HasNext : {T C V : Type 0} → Ways T C V → State T C V → ℕ → (Option (List ℕ) → Type 0) → Type 0
HasNext w state g is_so = Always w state
    (λ histories. is_so (next_bytes w (connection_at state.connections g) (queue_at state.proxy.queues g)))

-- Whether there was something to write to guest g, which stands behind what was there before.
abbrev pub Writes : {T C V : Type 0} → Ways T C V → State T C V → State T C V → ℕ → List ℕ → List ℕ → Bool → Type 0
Writes w old new g before after true = (bytes : List ℕ) × (after ≡ before ++ bytes) × AllGo w old new (wrote g bytes)
    × HasNext w old g (λ next. next ≡ Some bytes)
Writes w old new g before after false =
    (after ≡ before) × AllStay w old new × HasNext w old g (λ next. next ≡ None)

-- one turn: the servers, s before and s' after, were asked what waits of each guest, and each was told its own outcomes
abbrev pub Turns : {T C V S : Type 0} → Ways T C V → Asks S C V → State T C V → State T C V → S → S → Type 0
Turns {T} {C} {V} w asks old new s s' = (batch : List (ℕ × C)) × (outcomes : List (Outcome V))
    × asks s batch outcomes s' × (length outcomes ≡ length batch)
    × Settles w.overlaps old.proxy.queues new.proxy.queues batch outcomes × AllGo w old new (told batch outcomes)
