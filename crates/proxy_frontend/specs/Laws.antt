-- What a guest of a frontend reads.
use Rattle.std.specs.Prelude.{◌≡◌, ℕ, cond, ◌==◌, List, [], ◌∷◌, ◌++◌, map, Option, Some, None}
use Rattle.std.specs.Option.{option_map}
use Rattle.resp_requests.specs.declared.limits.Limits.{Limits}
use Rattle.resp_requests.specs.Laws.{joined}
use Rattle.proxy_core.specs.declared.queue.Entry.{Entry}
use Rattle.proxy_core.specs.Batch.{Asks, outcomes_of}
use Rattle.proxy_core.specs.Guests.{queue_at}
use Rattle.proxy_core.specs.Sees.{Came, Told, sees, shown}
use Rattle.proxy_connection.specs.declared.connection.Connection.{Connection}
use Rattle.proxy_connection.specs.History.{History, beginning, fed_more, written_more, then}
use Rattle.proxy_connection.specs.Serving.{Serves, rest_of}
use Rattle.proxy_connection.specs.Ways.{Ways}
use Rattle.proxy_frontend.specs.Histories.{Histories}
use Rattle.proxy_frontend.specs.Serving.{AreServed}
use Rattle.proxy_frontend.specs.State.{State, connection_at}
use Rattle.proxy_frontend.specs.Steps.{Step, Joined, NotJoined, Heard, NotHeard, Entered, Rested, NotAdvanced, Wrote, WroteNothing, NotWritten, Left, Turned, NotTurned, Runs}

-- What was seen of guest g in these steps, behind what was seen of it before: steps of other guests are passed over,
-- and of a turn it was told its own outcomes.
abbrev pub own_seen : {T C V : Type 0} → Limits → ℕ → List (Step T C V) → Option (History T C V)
    → Option (History T C V)
own_seen limits g [] o = o
own_seen limits g (Joined n t ∷ steps) o = own_seen limits g steps (cond (n == g) (Some (beginning limits t)) o)
own_seen limits g (NotJoined t why ∷ steps) o = own_seen limits g steps o
own_seen limits g (Heard n bytes ∷ steps) o =
    own_seen limits g steps (cond (n == g) (option_map (λ h. fed_more h bytes.items) o) o)
own_seen limits g (NotHeard n bytes ∷ steps) o = own_seen limits g steps o
own_seen limits g (Entered n e ∷ steps) o =
    own_seen limits g steps (cond (n == g) (option_map (λ h. then h (Came e)) o) o)
own_seen limits g (Rested n why ∷ steps) o = own_seen limits g steps o
own_seen limits g (NotAdvanced n ∷ steps) o = own_seen limits g steps o
own_seen limits g (Wrote n bytes ∷ steps) o =
    own_seen limits g steps (cond (n == g) (option_map (λ h. written_more h bytes.items) o) o)
own_seen limits g (WroteNothing n ∷ steps) o = own_seen limits g steps o
own_seen limits g (NotWritten n ∷ steps) o = own_seen limits g steps o
own_seen limits g (Left n ∷ steps) o = own_seen limits g steps (cond (n == g) None o)
own_seen limits g (Turned batch outcomes ∷ steps) o =
    own_seen limits g steps (option_map (λ h. then h (Told (outcomes_of g batch outcomes))) o)
own_seen limits g (NotTurned ∷ steps) o = own_seen limits g steps o

-- The bytes that were written to a guest, and behind them what is left of the reply that is going out, are those of its
-- first replies: of what it sees of its own entries, as its own outcomes tell; the others are in its queue.
pub record ReadsItsOwn {T C V : Type 0} (w : Ways T C V) (c : Connection T C V) (q : List (Entry C V))
    (h : History T C V) : Type 0 where
  pub replies : List V
  pub sees : sees w.overlaps [] h.events ≡ shown replies q
  pub writes : h.written ++ rest_of w.written c.reply c.count ≡ joined (map w.written replies)

-- Over every run, whatever the other guests do and whichever calls fail: no guest's bytes reach another. Guest g has a
-- connection of its number, which serves what was seen of g alone, and what is written to it are its own replies.
abbrev pub EachReadsItsOwn : {T C V S : Type 0} → Ways T C V → (C → ℕ) → (V → ℕ) → Asks S C V → Type 0
EachReadsItsOwn {T} {C} {V} {S} w command reply asks =
    (steps : List (Step T C V)) (old : State T C V) (s : S) (new : State T C V) (s' : S)
    → Runs w command reply asks steps old s new s' → (histories : Histories T C V) → AreServed w old histories
    → (g : ℕ) (h : History T C V) → own_seen old.limits g steps (histories g) ≡ Some h
    → (c : Connection T C V) × (connection_at new.connections g ≡ Some c) × (c.guest ≡ g)
    × Serves w c (queue_at new.proxy.queues g) h × ReadsItsOwn w c (queue_at new.proxy.queues g) h
