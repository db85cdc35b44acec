-- What a connection stands for: what was seen of its guest, and how that hangs together.
use Rattle.std.specs.Prelude.{◌≡◌, ℕ, ◌==◌, ◌&&◌, ◌||◌, Bool, true, false, List, [], ◌∷◌, ◌++◌, drop, length, map, Option, Some, None}
use Rattle.resp_requests.specs.declared.fault.Fault.{Fault}
use Rattle.resp_requests.specs.Given.{texts}
use Rattle.resp_requests.specs.Laws.{joined}
use Rattle.resp_requests.specs.Requests.{Command}
use Rattle.resp_requests.specs.Standing.{Stands, AreAll, told, limits_of}
use Rattle.proxy_core.specs.declared.queue.Entry.{Entry}
use Rattle.proxy_core.specs.declared.queue.Entry.TheVariants.{Reads}
use Rattle.proxy_core.specs.Sees.{sees, shown}
use Rattle.proxy_connection.specs.declared.connection.Connection.{Connection}
use Rattle.proxy_connection.specs.declared.pending.Pending.{Pending}
use Rattle.proxy_connection.specs.declared.pending.Pending.TheVariants as pendings
use Rattle.proxy_connection.specs.History.{History, came}
use Rattle.proxy_connection.specs.Ways.{Ways, Understands}

-- behind these commands the one that was read and is not understood yet
abbrev pub and_heard : {C V : Type 0} → List Command → Pending C V → List Command
and_heard commands (pendings.Words words) = commands ++ texts words.items ∷ []
and_heard commands _ = commands

-- behind these entries the one for which there is no room yet
abbrev pub and_unput : {C V : Type 0} → List (Entry C V) → Pending C V → List (Entry C V)
and_unput entries (pendings.Entry e) = entries ++ e ∷ []
and_unput entries _ = entries

-- what is not written yet of the reply that is going out
abbrev pub rest_of : {V : Type 0} → (V → List ℕ) → Option V → ℕ → List ℕ
rest_of written None n = []
rest_of written (Some reply) n = drop n (written reply)

-- all is what the commands mean, and behind it, where the bytes were refused, the answer to their fault
abbrev pub AreAnswered : {T C V : Type 0} → Ways T C V → T → Bool → Option Fault → List (Entry C V)
    → List (Entry C V) → Type 0
AreAnswered w t false fault entries all = all ≡ entries
AreAnswered w t true None entries all = ⊥
AreAnswered {T} {C} {V} w t true (Some f) entries all =
    (reply : V) × w.refuses t f reply × (all ≡ entries ++ Reads reply ∷ [])

-- what is not understood yet was read before the guest ended
abbrev pub IsInTime : {T C V : Type 0} → Ways T C V → T → Bool → Option Fault → Pending C V → Type 0
IsInTime w t is_refused fault (pendings.Words words) = (w.has_ended t ≡ false) × (is_refused ≡ false)
IsInTime w t is_refused fault (pendings.Fault f) = (fault ≡ Some f) × (is_refused ≡ false)
IsInTime w t is_refused fault _ = Unit {0}

-- The connection c of a guest whose queue is q, and of which this was seen: the commands that were read of its
-- bytes were understood so and came into the queue in order, and what was written is the replies that were
-- taken of it, each whole, but for the rest of the last.
pub record Serves {T C V : Type 0} (w : Ways T C V) (c : Connection T C V) (q : List (Entry C V))
    (h : History T C V) : Type 0 where
  pub commands : List Command
  pub entries : List (Entry C V)
  pub replies : List V
  pub limits : limits_of c.requests ≡ h.limits
  -- these commands were read of its bytes, in any pieces
  pub reads : Stands c.requests (and_heard commands c.pending) h.fed
  -- they were understood so, each by what was said before it
  pub understands : Understands w h.translator commands entries c.translator
  pub in_time : IsInTime w c.translator c.is_refused (told c.requests) c.pending
  -- and came into its queue, in order
  pub comes : AreAnswered w c.translator c.is_refused (told c.requests) entries (and_unput (came h.events) c.pending)
  -- these replies were taken of it: the first of what it sees of its own entries and outcomes
  pub sees : sees w.overlaps [] h.events ≡ shown replies q
  -- and are written, each whole, but for the rest of the last
  pub writes : h.written ++ rest_of w.written c.reply c.count ≡ joined (map w.written replies)

-- Whatever was seen of the guest before: this was seen of it now.
abbrev pub Goes : {T C V : Type 0} → Ways T C V → Connection T C V → List (Entry C V) → Connection T C V
    → List (Entry C V) → (History T C V → History T C V) → Type 0
Goes {T} {C} {V} w old q new q' more = (h : History T C V) → Serves w old q h → Serves w new q' (more h)

-- nothing was seen
abbrev pub Stays : {T C V : Type 0} → Ways T C V → Connection T C V → Connection T C V → List (Entry C V) → Type 0
Stays w old new q = Goes w old q new q (λ h. h)

-- whatever was seen of the guest before, and whatever its queue holds, which does not change: this was seen of it now
abbrev pub AlwaysGoes : {T C V : Type 0} → Ways T C V → Connection T C V → Connection T C V
    → (History T C V → History T C V) → Type 0
AlwaysGoes {T} {C} {V} w old new more = (q : List (Entry C V)) → Goes w old q new q more

-- nothing was seen, whatever its queue holds
abbrev pub AlwaysStays : {T C V : Type 0} → Ways T C V → Connection T C V → Connection T C V → Type 0
AlwaysStays {T} {C} {V} w old new = (q : List (Entry C V)) → Stays w old new q

-- every command of the bytes that a guest sent came into its queue
pub record IsCaughtUp {T C V : Type 0} (w : Ways T C V) (c : Connection T C V) (h : History T C V) : Type 0 where
  pub commands : List Command
  pub all : AreAll h.limits h.fed commands
  pub understands : Understands w h.translator commands (came h.events) c.translator

-- nothing more is read of it
abbrev pub is_ended : {T C V : Type 0} → Ways T C V → Connection T C V → Bool
is_ended w c = c.is_refused || w.has_ended c.translator

abbrev pub is_nothing : {C V : Type 0} → Pending C V → Bool
is_nothing pendings.Nothing = true
is_nothing _ = false

abbrev pub is_empty : List ℕ → Bool
is_empty [] = true
is_empty (b ∷ bs) = false

-- nothing more is read of the guest whose queue is q, and all of its replies are written
abbrev pub is_over : {T C V : Type 0} → Ways T C V → Connection T C V → List (Entry C V) → Bool
is_over w c q =
    is_ended w c && (is_nothing c.pending && ((length q == 0) && is_empty (rest_of w.written c.reply c.count)))
