-- What is to be written next to a guest.
use Rattle.std.proofs.Common.{◌≡◌, ℕ, ◌<◌, Bool, true, false, List, length, get_or, Option, Some, None, set, refl, sym, ap, subst}
use Rattle.proxy_core.specs.Guests.{Queues, queue_at}
use Rattle.proxy_connection.specs.declared.connection.Connection.{Connection}
use Rattle.proxy_connection.specs.History.{written_more}
use Rattle.proxy_connection.specs.Serving.{Serves}
use Rattle.proxy_connection.specs.Ways.{Ways}
use Rattle.proxy_frontend.specs.Moves.{HasNext, Writes, next_bytes}
use Rattle.proxy_frontend.specs.Places.{KeepsNext, WritesNext}
use Rattle.proxy_frontend.specs.Serving.{AllStay}
use Rattle.proxy_frontend.specs.State.{State, connection_at, state_of}
use Rattle.proxy_frontend.proofs.Places.{read_at}
use Rattle.proxy_core.specs.State as core
use Rattle.resp_requests.specs.declared.limits.Limits.{Limits}
use Rattle.proxy_frontend.proofs.Served.{own_number, unmoved, moved}

module _ {T C V : Type 0} (w : Ways T C V) (old new : State T C V) (g : ℕ) where
  has_next : (c : Connection T C V) (is_so : Option (List ℕ) → Type 0) → connection_at old.connections g ≡ Some c
      → is_so (next_bytes w (Some c) (queue_at old.proxy.queues c.guest)) → HasNext w old g is_so
  has_next c is_so was so histories s =
      let own = own_number w old histories g c was s in
      subst (λ (x : Option (Connection T C V)). is_so (next_bytes w x (queue_at old.proxy.queues g))) (sym was)
      (subst (λ (i : ℕ). is_so (next_bytes w (Some c) (queue_at old.proxy.queues i))) own so)

  module _ (c c' : Connection T C V) (was : connection_at old.connections g ≡ Some c) (made : new.connections ≡ set old.connections g (Some c')) (k : c'.guest ≡ c.guest) (f : new.proxy.openings ≡ old.proxy.openings) where
    -- there was no memory for it
    keeps_next : KeepsNext w c c' old.proxy.queues new.proxy.queues → AllStay w old new
    keeps_next m = unmoved w old new g (moved w old new g c c' (λ h. h) was made k f m.1 m.2)

    writes_next : (before after : List ℕ) (any : Bool) → WritesNext w c c' old.proxy.queues new.proxy.queues before after any → Writes w old new g before after any
    writes_next before after true m =
        (m.0, m.1, moved w old new g c c' (λ h. written_more h m.0) was made k f m.3 m.4, has_next c (λ next. next ≡ Some m.0) was m.2)
    writes_next before after false m = (
      m.0,
      unmoved w old new g (moved w old new g c c' (λ h. h) was made k f (λ n other. ap (λ (qs : Queues C V). queue_at qs n) m.2)
          (λ h s. subst (λ (qs : Queues C V). Serves w c' (queue_at qs c.guest) h) (sym m.2) (m.3 h s))),
      has_next c (λ next. next ≡ None) was m.1,
    )

-- the same, of the connection that a call finds and leaves at the guest's place
module _ {T C V : Type 0} (w : Ways T C V) (cs : List (Option (Connection T C V))) (p p' : core.State C V) (l : Limits) (g : ℕ) (o : Option (Connection T C V)) (c c' : Connection T C V)
    (r : o ≡ get_or cs g o) (e : o ≡ Some c) (h : g < length cs) (k : c'.guest ≡ c.guest) (f : p'.openings ≡ p.openings) where
  pub keeps_at : KeepsNext w c c' p.queues p'.queues → AllStay w (state_of cs p l) (state_of (set cs g (Some c')) p' l)
  keeps_at = keeps_next w (state_of cs p l) (state_of (set cs g (Some c')) p' l) g c c' (read_at cs g o c r e h) refl k f

  pub writes_at : (before after : List ℕ) (any : Bool) → WritesNext w c c' p.queues p'.queues before after any
      → Writes w (state_of cs p l) (state_of (set cs g (Some c')) p' l) g before after any
  writes_at = writes_next w (state_of cs p l) (state_of (set cs g (Some c')) p' l) g c c' (read_at cs g o c r e h) refl k f
