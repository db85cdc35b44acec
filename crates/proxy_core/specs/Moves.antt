-- What the calls of a proxy do: to the queues of its guests, qs before and qs' after, or to all of it.
use Rattle.std.specs.Prelude.{◌≡◌, ◌≢◌, ℕ, ◌+◌, ◌<◌, ◌≤◌, ◌⊎◌, Bool, true, false, List, [], ◌∷◌, ◌++◌, length, slice_set}
use Rattle.proxy_core.specs.declared.limits.Room.{Room}
use Rattle.proxy_core.specs.declared.outcome.Outcome.{Outcome}
use Rattle.proxy_core.specs.declared.queue.Entry.{Entry}
use Rattle.proxy_core.specs.declared.queue.Entry.TheVariants.{Reads}
use Rattle.proxy_core.specs.declared.refusal.Refusal.{Refusal}
use Rattle.proxy_core.specs.declared.refusal.Refusal.TheVariants.{NoGuest, Full, NoMemory}
use Rattle.proxy_core.specs.declared.refusal.JoinRefusal.{JoinRefusal}
use Rattle.proxy_core.specs.declared.refusal.JoinRefusal.TheVariants as joins
use Rattle.proxy_core.specs.Queue.{waiting, settled}
use Rattle.proxy_core.specs.Batch.{Asks, commands_of, outcomes_of}
use Rattle.proxy_core.specs.Guests.{Queues, queue_at, is_open_at, free_from, entry_bytes, queue_bytes}
use Rattle.proxy_core.specs.State.{State}

-- an entry of so many bytes has no room in a share of which so many entries and bytes are held
abbrev pub IsFull : Room → ℕ → ℕ → ℕ → Type 0
IsFull share entries held size = (share.entries ≤ entries) ⊎ (share.bytes < held + size)

-- and one that has room there
abbrev pub HasRoom : Room → ℕ → ℕ → ℕ → Type 0
HasRoom share entries held size = (entries < share.entries) × (held + size ≤ share.bytes)

-- when an entry is refused so, by whether its guest is there, and by its share: what other guests hold is
-- no cause, and memory is wanted only for an entry that has room
abbrev pub IsDue : Refusal → Bool → Room → ℕ → ℕ → ℕ → Type 0
IsDue NoGuest is_there share entries held size = is_there ≡ false
IsDue Full is_there share entries held size = IsFull share entries held size
IsDue NoMemory is_there share entries held size = (is_there ≡ true) × HasRoom share entries held size

-- the same of an entry for a guest with this queue, where commands and replies take these bytes
abbrev pub IsPutDue : {C V : Type 0} → (C → ℕ) → (V → ℕ) → Room → List (Entry C V) → Entry C V → Bool → Refusal
    → Type 0
IsPutDue command reply share q e is_there why =
    IsDue why is_there share (length q) (queue_bytes command reply q) (entry_bytes command reply e)

-- guest g is there, and its own share has room for the entry, whatever other guests hold
abbrev pub HasRoomFor : {C V : Type 0} → (C → ℕ) → (V → ℕ) → State C V → ℕ → Entry C V → Type 0
HasRoomFor command reply state g e = (is_open_at state.openings g ≡ true)
    × HasRoom state.limits.share (length (queue_at state.queues g))
    (queue_bytes command reply (queue_at state.queues g)) (entry_bytes command reply e)

-- when a guest is refused so: all numbers below the limit are taken, or one of them is free, but no guest that
-- left had it, so that a place has to be made for it
abbrev pub IsJoinDue : JoinRefusal → List Bool → ℕ → Type 0
IsJoinDue joins.Full openings most = most ≤ free_from 0 openings
IsJoinDue joins.NoMemory openings most = (free_from 0 openings < most) × (length openings ≤ free_from 0 openings)

-- of guest g nothing is held now, and it is there or not; nothing changes of other guests
abbrev pub Renews : {C V : Type 0} → State C V → State C V → ℕ → Bool → Type 0
Renews old new g is_there = (queue_at new.queues g ≡ []) × (is_open_at new.openings g ≡ is_there)
    × (new.limits ≡ old.limits) × ((h : ℕ) → h ≢ g → (queue_at new.queues h ≡ queue_at old.queues h)
    × (is_open_at new.openings h ≡ is_open_at old.openings h))

-- guest g has one entry more, behind the others; no other guest's queue changes
abbrev pub Puts : {C V : Type 0} → Queues C V → Queues C V → ℕ → Entry C V → Type 0
Puts qs qs' g e = (g < length qs) × (qs' ≡ slice_set qs g (queue_at qs g ++ e ∷ []))

-- guest g takes its first reply; no other guest's queue changes
abbrev pub Takes : {C V : Type 0} → Queues C V → Queues C V → ℕ → V → Type 0
Takes qs qs' g v =
    (g < length qs) × (queue_at qs g ≡ Reads v ∷ queue_at qs' g) × (qs' ≡ slice_set qs g (queue_at qs' g))

-- a batch asks of each guest what waits of it, in its order, and its queue is settled by its own outcomes
abbrev pub Settles : {C V : Type 0} → (C → C → Bool) → Queues C V → Queues C V → List (ℕ × C)
    → List (Outcome V) → Type 0
Settles overlaps qs qs' batch outcomes = (g : ℕ) → (commands_of g batch ≡ waiting (queue_at qs g))
    × (queue_at qs' g ≡ settled overlaps (queue_at qs g) (outcomes_of g batch outcomes))

-- one turn, between the servers s before and s' after: one call of them, with one outcome for each command
abbrev pub Turns : {C V S : Type 0} → (C → C → Bool) → Asks S C V → Queues C V → Queues C V → S → S → Type 0
Turns {C} {V} overlaps asks qs qs' s s' = (batch : List (ℕ × C)) × (outcomes : List (Outcome V))
    × asks s batch outcomes s' × (length outcomes ≡ length batch) × Settles overlaps qs qs' batch outcomes
