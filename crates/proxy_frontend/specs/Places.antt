-- What is done at the place of one guest among all connections.
use Rattle.std.specs.Prelude.{◌≡◌, ◌≢◌, ℕ, Bool, true, false, List, ◌++◌, Option, Some, None}
use Rattle.proxy_core.specs.Guests.{Queues, queue_at}
use Rattle.proxy_connection.specs.declared.connection.Connection.{Connection}
use Rattle.proxy_connection.specs.History.{written_more}
use Rattle.proxy_connection.specs.Serving.{Goes, Stays}
use Rattle.proxy_connection.specs.Ways.{Ways}
use Rattle.proxy_frontend.specs.Moves.{has_bytes, next_bytes}
use Rattle.proxy_frontend.specs.State.{connection_at}

-- at place g there is this now, and every other place is as before
abbrev pub Places : {T C V : Type 0} → List (Option (Connection T C V)) → List (Option (Connection T C V)) → ℕ
    → Option (Connection T C V) → Type 0
Places old new g o = (connection_at new g ≡ o) × ((n : ℕ) → n ≢ g → connection_at new n ≡ connection_at old n)

-- no queue changes but that of guest g
abbrev pub SameOthers : {C V : Type 0} → ℕ → Queues C V → Queues C V → Type 0
SameOthers g qs qs' = (n : ℕ) → n ≢ g → queue_at qs' n ≡ queue_at qs n

-- whether there was something to write of a connection, which stands behind what was there before
abbrev pub WritesNext : {T C V : Type 0} → Ways T C V → Connection T C V → Connection T C V → Queues C V → Queues C V
    → List ℕ → List ℕ → Bool → Type 0
WritesNext w c c' qs qs' before after true = (bytes : List ℕ) × (after ≡ before ++ bytes)
    × (next_bytes w (Some c) (queue_at qs c.guest) ≡ Some bytes) × SameOthers c.guest qs qs'
    × Goes w c (queue_at qs c.guest) c' (queue_at qs' c.guest) (λ h. written_more h bytes)
WritesNext w c c' qs qs' before after false = (after ≡ before)
    × (next_bytes w (Some c) (queue_at qs c.guest) ≡ None) × (qs' ≡ qs) × Stays w c c' (queue_at qs c.guest)

-- there were bytes, for which there was no memory, and none of them is lost
abbrev pub KeepsNext : {T C V : Type 0} → Ways T C V → Connection T C V → Connection T C V → Queues C V → Queues C V
    → Type 0
KeepsNext w c c' qs qs' = (has_bytes (next_bytes w (Some c) (queue_at qs c.guest)) ≡ true) × SameOthers c.guest qs qs'
    × Goes w c (queue_at qs c.guest) c' (queue_at qs' c.guest) (λ h. h)
