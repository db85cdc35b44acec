-- What was seen of one guest since it joined.
use Rattle.std.specs.Prelude.{ℕ, List, [], ◌∷◌, ◌++◌}
use Rattle.resp_requests.specs.declared.limits.Limits.{Limits}
use Rattle.proxy_core.specs.declared.queue.Entry.{Entry}
use Rattle.proxy_core.specs.Sees.{Event, Came, Told, Renewed}

-- under which limits it sends, how its words were understood when it joined, the bytes that it sent, those that
-- were written to it, and what happened to its queue, in order
pub record History (T C V : Type 0) : Type 0 where
  pub limits : Limits
  pub translator : T
  pub fed : List ℕ
  pub written : List ℕ
  pub events : List (Event C V)

-- of a guest that just joined
abbrev pub beginning : {T C V : Type 0} → Limits → T → History T C V
beginning l t = record { limits = l; translator = t; fed = []; written = []; events = [] }

-- it sent these bytes too
abbrev pub fed_more : {T C V : Type 0} → History T C V → List ℕ → History T C V
fed_more h bytes = record h { fed = h.fed ++ bytes }

-- these bytes were written to it too
abbrev pub written_more : {T C V : Type 0} → History T C V → List ℕ → History T C V
written_more h bytes = record h { written = h.written ++ bytes }

-- this happened to its queue then
abbrev pub then : {T C V : Type 0} → History T C V → Event C V → History T C V
then h event = record h { events = h.events ++ event ∷ [] }

-- the entries that came into its queue
abbrev pub came : {C V : Type 0} → List (Event C V) → List (Entry C V)
came [] = []
came (Came e ∷ events) = e ∷ came events
came (Told outcomes ∷ events) = came events
came (Renewed ∷ events) = came events
