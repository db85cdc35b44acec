-- Laws of connections.
use Rattle.std.specs.Prelude.{◌≡◌, true, List, [], ◌++◌, map}
use Rattle.resp_requests.specs.Laws.{joined}
use Rattle.resp_requests.specs.Requests.{Command, requests}
use Rattle.proxy_core.specs.declared.outcome.Outcome.{Outcome}
use Rattle.proxy_core.specs.declared.queue.Entry.{Entry}
use Rattle.proxy_core.specs.Queue.{settled}
use Rattle.proxy_core.specs.Sees.{Told, sees, shown}
use Rattle.proxy_connection.specs.declared.connection.Connection.{Connection}
use Rattle.proxy_connection.specs.History.{History, then}
use Rattle.proxy_connection.specs.Ways.{Ways}
use Rattle.proxy_connection.specs.Serving.{Serves, Goes, is_over}

-- A turn of the proxy leaves the connection, and settles the guest's queue by its own outcomes.
abbrev pub TurnsAreTold : {T C V : Type 0} → Ways T C V → Type 0
TurnsAreTold {T} {C} {V} w = (c : Connection T C V) (q : List (Entry C V)) (outcomes : List (Outcome V))
    → Goes w c q c (settled w.overlaps q outcomes) (λ h. then h (Told outcomes))

-- In whichever pieces the bytes came, the commands are the first of those that the bytes spell.
abbrev pub ReadsInOrder : {T C V : Type 0} → Ways T C V → Type 0
ReadsInOrder {T} {C} {V} w = (c : Connection T C V) (q : List (Entry C V)) (h : History T C V) → (s : Serves w c q h)
    → (others : List Command) × ((requests h.limits h.fed).commands ≡ s.commands ++ others)

-- To a guest that is over all replies were written, one for each of its entries, as its outcomes tell them.
abbrev pub OverIsWhole : {T C V : Type 0} → Ways T C V → Type 0
OverIsWhole {T} {C} {V} w = (c : Connection T C V) (q : List (Entry C V)) (h : History T C V) → Serves w c q h
    → is_over w c q ≡ true → (replies : List V) × (sees w.overlaps [] h.events ≡ shown replies [])
    × (h.written ≡ joined (map w.written replies))
