-- What the calls of a connection do, to it and to its guest's queue in the proxy.
use Rattle.std.specs.Prelude.{◌≡◌, ◌≢◌, ℕ, ◌<◌, ◌⊎◌, Bool, true, false, List, [], None, length}
use Rattle.resp_requests.specs.Standing.{waiting}
use Rattle.proxy_core.specs.declared.limits.Room.{Room}
use Rattle.proxy_core.specs.declared.queue.Entry.{Entry}
use Rattle.proxy_core.specs.Guests.{Queues, queue_at, is_open_at, entry_bytes, queue_bytes}
use Rattle.proxy_core.specs.Moves.{HasRoom, IsFull, Puts, Takes}
use Rattle.proxy_core.specs.Queue.{first_reply}
use Rattle.proxy_core.specs.Sees.{Came}
use Rattle.proxy_core.specs.State.{State}
use Rattle.proxy_connection.specs.declared.connection.Connection.{Connection}
use Rattle.proxy_connection.specs.declared.pending.Pending.{Pending}
use Rattle.proxy_connection.specs.declared.pending.Pending.TheVariants as pendings
use Rattle.proxy_connection.specs.declared.progress.Progress.{Progress}
use Rattle.proxy_connection.specs.declared.progress.Progress.TheVariants.{Taken, Short, Full, Ended, NoGuest}
use Rattle.proxy_connection.specs.History.{History, then}
use Rattle.proxy_connection.specs.Ways.{Ways}
use Rattle.proxy_connection.specs.Serving.{Serves, Goes, Stays, IsCaughtUp, rest_of, is_ended}

-- no queue changes, and nothing was seen of guest g
abbrev pub Keeps : {T C V : Type 0} → Ways T C V → ℕ → Connection T C V → Connection T C V → Queues C V
    → Queues C V → Type 0
Keeps w g old new qs qs' = (qs' ≡ qs) × Stays w old new (queue_at qs g)

-- why no command is pending, of a connection that is looked at anew
abbrev pub Rests : {T C V : Type 0} → Ways T C V → Connection T C V → Connection T C V → Progress → Type 0
Rests {T} {C} {V} w old new Short = (q : List (Entry C V)) (h : History T C V) → Serves w old q h → IsCaughtUp w new h
Rests w old new Ended = (new.pending ≡ pendings.Nothing) × (is_ended w new ≡ true)
Rests w old new _ = ⊥

-- an entry is pending
abbrev pub HoldsEntry : {C V : Type 0} → Pending C V → Type 0
HoldsEntry (pendings.Entry e) = Unit {0}
HoldsEntry _ = ⊥

-- What came of looking for the next command of guest g, in a share of which commands and replies take these bytes.
abbrev pub Advances : {T C V : Type 0} → Ways T C V → (C → ℕ) → (V → ℕ) → Room → Bool → ℕ → Connection T C V
    → Connection T C V → Queues C V → Queues C V → Progress → Type 0
Advances {T} {C} {V} w command reply share is_there g old new qs qs' Taken = (e : Entry C V) × Puts qs qs' g e
    × Goes w old (queue_at qs g) new (queue_at qs' g) (λ h. then h (Came e))
Advances {T} {C} {V} w command reply share is_there g old new qs qs' Short = Keeps w g old new qs qs'
    × ((h : History T C V) → Serves w old (queue_at qs g) h → IsCaughtUp w new h)
Advances {T} {C} {V} w command reply share is_there g old new qs qs' Full = Keeps w g old new qs qs'
    × (e : Entry C V) × (new.pending ≡ pendings.Entry e) × IsFull share (length (queue_at qs g))
    (queue_bytes command reply (queue_at qs g)) (entry_bytes command reply e)
Advances w command reply share is_there g old new qs qs' Ended =
    Keeps w g old new qs qs' × (new.pending ≡ pendings.Nothing) × (is_ended w new ≡ true)
Advances w command reply share is_there g old new qs qs' NoGuest = Keeps w g old new qs qs' × (is_there ≡ false)

-- What memory was wanted for, by what of the next command is pending in c, in such a share of which the guest holds q:
-- for bytes that wait, of a guest that has not ended; for what its words or its fault mean; or for an entry that has
-- room, of a guest that is there.
abbrev pub IsUnderWay : {T C V : Type 0} → Ways T C V → (C → ℕ) → (V → ℕ) → Room → Bool → List (Entry C V)
    → Connection T C V → Pending C V → Type 0
IsUnderWay w command reply share is_there q c pendings.Nothing =
    (is_ended w c ≡ false) × (0 < length (waiting c.requests))
IsUnderWay w command reply share is_there q c (pendings.Entry e) = (is_there ≡ true)
    × HasRoom share (length q) (queue_bytes command reply q) (entry_bytes command reply e)
IsUnderWay w command reply share is_there q c _ = Unit {0}

-- memory was wanted for that in every share, and whatever the guest holds
abbrev pub AlwaysUnderWay : {T C V : Type 0} → Ways T C V → (C → ℕ) → (V → ℕ) → Connection T C V → Type 0
AlwaysUnderWay {T} {C} {V} w command reply c = (share : Room) (is_there : Bool) (q : List (Entry C V))
    → IsUnderWay w command reply share is_there q c c.pending

-- what came of looking for the next command of a connection's own guest, in a proxy, before and after
abbrev pub AdvancesIn : {T C V : Type 0} → Ways T C V → (C → ℕ) → (V → ℕ) → Connection T C V → Connection T C V
    → State C V → State C V → Progress → Type 0
AdvancesIn w command reply old new before after = Advances w command reply before.limits.share
    (is_open_at before.openings old.guest) old.guest old new before.queues after.queues

-- what memory was wanted for on the way to the next command of a connection's own guest in a proxy: for bytes that wait,
-- for what its words or its fault mean, or for an entry that has room
abbrev pub IsUnderWayIn : {T C V : Type 0} → Ways T C V → (C → ℕ) → (V → ℕ) → Connection T C V → Connection T C V
    → State C V → Type 0
IsUnderWayIn w command reply old new before = IsUnderWay w command reply before.limits.share
    (is_open_at before.openings old.guest) (queue_at before.queues old.guest) new new.pending

-- What came of looking for bytes to write to guest g: those that are left of the reply that is going out, or,
-- where none are, those of the next reply; or no reply is there.
abbrev pub Fetches : {T C V : Type 0} → Ways T C V → ℕ → Connection T C V → Connection T C V → Queues C V
    → Queues C V → Bool → Type 0
Fetches {T} {C} {V} w g old new qs qs' true = ((new ≡ old) × (qs' ≡ qs) × (rest_of w.written old.reply old.count ≢ []))
    ⊎ ((reply : V) × (rest_of w.written old.reply old.count ≡ []) × Takes qs qs' g reply
    × (rest_of w.written new.reply new.count ≡ w.written reply))
Fetches w g old new qs qs' false = (new ≡ old) × (qs' ≡ qs) × (rest_of w.written old.reply old.count ≡ [])
    × (first_reply (queue_at qs g) ≡ None)
