-- What a frontend stands for: what was seen of each of its guests.
use Rattle.std.specs.Prelude.{◌≡◌, ℕ, Bool, true, false, List, [], Option, Some, None}
use Rattle.proxy_core.specs.declared.queue.Entry.{Entry}
use Rattle.proxy_core.specs.Guests.{queue_at, is_open_at}
use Rattle.proxy_connection.specs.declared.connection.Connection.{Connection}
use Rattle.proxy_connection.specs.History.{History}
use Rattle.proxy_connection.specs.Serving.{Serves}
use Rattle.proxy_connection.specs.Ways.{Ways}
use Rattle.proxy_frontend.specs.Histories.{Histories}
use Rattle.proxy_frontend.specs.State.{State, connection_at}

-- What stands at number g, whose queue is q, and of which this was seen: the connection of guest g, which serves it; or
-- there is no guest, no connection, and nothing is held.
abbrev pub IsServed : {T C V : Type 0} → Ways T C V → ℕ → Option (Connection T C V) → Bool → List (Entry C V)
    → Option (History T C V) → Type 0
IsServed w g (Some c) is_there q (Some h) = (is_there ≡ true) × (c.guest ≡ g) × Serves w c q h
IsServed w g None is_there q None = (is_there ≡ false) × (q ≡ [])
IsServed w g (Some c) is_there q None = ⊥
IsServed w g None is_there q (Some h) = ⊥

-- so of number g of a frontend
abbrev pub IsServedAt : {T C V : Type 0} → Ways T C V → State T C V → ℕ → Option (History T C V) → Type 0
IsServedAt w state g h = IsServed w g (connection_at state.connections g) (is_open_at state.proxy.openings g)
    (queue_at state.proxy.queues g) h

-- At each number there is the connection of that guest, which serves what was seen of it, or neither guest nor
-- connection, and nothing is held.
abbrev pub AreServed : {T C V : Type 0} → Ways T C V → State T C V → Histories T C V → Type 0
AreServed w state histories = (g : ℕ) → IsServedAt w state g (histories g)

-- Whatever was seen of each guest before: this was seen of them now.
abbrev pub AllGo : {T C V : Type 0} → Ways T C V → State T C V → State T C V → (Histories T C V → Histories T C V)
    → Type 0
AllGo {T} {C} {V} w old new more =
    (histories : Histories T C V) → AreServed w old histories → AreServed w new (more histories)

-- nothing was seen
abbrev pub AllStay : {T C V : Type 0} → Ways T C V → State T C V → State T C V → Type 0
AllStay w old new = AllGo w old new (λ histories. histories)

-- whatever was seen of each guest before
abbrev pub Always : {T C V : Type 0} → Ways T C V → State T C V → (Histories T C V → Type 0) → Type 0
Always {T} {C} {V} w state is_so = (histories : Histories T C V) → AreServed w state histories → is_so histories
