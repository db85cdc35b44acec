-- What comes of looking for a guest's next command.
use Rattle.std.proofs.Common.{◌≡◌, ◌≢◌, ℕ, ◌<◌, List, [], ◌∷◌, ◌++◌, length, get_or, Option, Some, None, MatchOption, set, refl, sym, ◌∙◌, ap, subst}
use Rattle.std.specs.Prelude.{is_some}
use Rattle.std.proofs.lemmas.List.{get_or-set_other}
use Rattle.proxy_core.specs.Guests.{Queues, queue_at, is_open_at}
use Rattle.proxy_core.specs.Sees.{Came}
use Rattle.proxy_connection.specs.declared.connection.Connection.{Connection}
use Rattle.proxy_connection.specs.declared.progress.Progress.{Progress}
use Rattle.proxy_connection.specs.declared.progress.Progress.TheVariants.{Taken, Short, Full, Ended, NoGuest}
use Rattle.proxy_connection.specs.History.{History, then}
use Rattle.proxy_connection.specs.Moves as moves
use Rattle.proxy_connection.specs.Serving.{Serves}
use Rattle.proxy_connection.specs.Ways.{Ways}
use Rattle.proxy_frontend.specs.Moves.{Advances, IsUnderWayAt, Rests, RestsAt}
use Rattle.proxy_frontend.specs.Serving.{AllStay, IsServed}
use Rattle.proxy_frontend.specs.State.{State, connection_at, state_of}
use Rattle.proxy_frontend.proofs.Places.{read_at}
use Rattle.proxy_core.specs.State as core
use Rattle.resp_requests.specs.declared.limits.Limits.{Limits}
use Rattle.proxy_frontend.proofs.Served.{own_number, served_by, unmoved, moved, now_at}

module _ {T C V : Type 0} (w : Ways T C V) (command : C → ℕ) (reply : V → ℕ) (old new : State T C V) (g : ℕ) (f : new.proxy.openings ≡ old.proxy.openings) where
  -- of a connection that is there
  module _ (c c' : Connection T C V) (was : connection_at old.connections g ≡ Some c) (made : new.connections ≡ set old.connections g (Some c')) (k : c'.guest ≡ c.guest) where
    abbrev Goes_so : Progress → Type 0
    Goes_so = moves.Advances w command reply old.proxy.limits.share (is_open_at old.proxy.openings c.guest) c.guest c c' old.proxy.queues new.proxy.queues

    keeps : moves.Keeps w c.guest c c' old.proxy.queues new.proxy.queues → AllStay w old new
    keeps m =
        unmoved w old new g (moved w old new g c c' (λ h. h) was made k f (λ n other. ap (λ (qs : Queues C V). queue_at qs n) m.0)
        (λ h s. subst (λ (qs : Queues C V). Serves w c' (queue_at qs c.guest) h) (sym m.0) (m.1 h s)))

    rests : (why : Progress) → why ≢ Taken → Goes_so why → (h : Option (History T C V)) → IsServed w g (Some c) (is_open_at old.proxy.openings g) (queue_at old.proxy.queues g) h
        → Rests w command reply old.proxy.limits.share (Some c') (queue_at old.proxy.queues g) h why
    rests why n m None s = absurd s
    rests Taken n m (Some h) s = absurd (n refl)
    rests Short n m (Some h) s = m.1 h (subst (λ (i : ℕ). Serves w c (queue_at old.proxy.queues i) h) (sym s.1) s.2)
    rests Full n m (Some h) s = rw (sym s.1) (m.1, m.2, m.3)
    rests Ended n m (Some h) s = (m.1, m.2)
    rests NoGuest n m (Some h) s =
        absurd (let is_there = s.0 in let is_gone = ap (is_open_at old.proxy.openings) (sym s.1) ∙ m.1 in let no : ⊥ = cc in no)

    rests_at : (why : Progress) → why ≢ Taken → Goes_so why → new.proxy.queues ≡ old.proxy.queues → RestsAt w command reply old new g why
    rests_at why n m k = (
      k,
      λ histories s. subst (λ (x : Option (Connection T C V)). Rests w command reply old.proxy.limits.share x (queue_at old.proxy.queues g) (histories g) why) (sym (now_at w old new g c c' (λ h. h) was made))
          (rests why n m (histories g) (served_by w old histories g (Some c) was s)),
    )

    -- it came, or rests
    advances_some : (progress : Progress) → Goes_so progress → Advances w command reply old new g progress
    advances_some Taken m = (
      m.0,
      ap is_some was,
      moved w old new g c c' (λ h. then h (Came m.0)) was made k f
          (λ n other. ap (λ (qs : Queues C V). queue_at qs n) m.1.1 ∙ get_or-set_other old.proxy.queues c.guest n (queue_at old.proxy.queues c.guest ++ m.0 ∷ []) [] other) m.2,
    )
    advances_some Short m = (keeps m.0, rests_at Short (λ e. let no : ⊥ = cc in no) m m.0.0)
    advances_some Full m = (keeps m.0, rests_at Full (λ e. let no : ⊥ = cc in no) m m.0.0)
    advances_some Ended m = (keeps m.0, rests_at Ended (λ e. let no : ⊥ = cc in no) m m.0.0)
    advances_some NoGuest m = (keeps m.0, rests_at NoGuest (λ e. let no : ⊥ = cc in no) m m.0.0)

    -- memory was wanted for the next command
    under_way : moves.IsUnderWay w command reply old.proxy.limits.share (is_open_at old.proxy.openings c.guest) (queue_at old.proxy.queues c.guest) c' c'.pending
        → IsUnderWayAt w command reply old new g
    under_way so histories s =
        let own = own_number w old histories g c was s in
        subst (λ (x : Option (Connection T C V)). MatchOption x ⊥ (λ d. moves.IsUnderWay w command reply old.proxy.limits.share (is_open_at old.proxy.openings g) (queue_at old.proxy.queues g) d d.pending))
        (sym (now_at w old new g c c' (λ h. h) was made))
        (subst (λ (i : ℕ). moves.IsUnderWay w command reply old.proxy.limits.share (is_open_at old.proxy.openings i) (queue_at old.proxy.queues i) c' c'.pending) own so)

-- the same, of the connection that a call finds and leaves at the guest's place
module _ {T C V : Type 0} (w : Ways T C V) (command : C → ℕ) (reply : V → ℕ) (cs : List (Option (Connection T C V))) (p p' : core.State C V) (l : Limits) (g : ℕ) (o : Option (Connection T C V)) (c c' : Connection T C V)
    (r : o ≡ get_or cs g o) (e : o ≡ Some c) (h : g < length cs) (k : c'.guest ≡ c.guest) (f : p'.openings ≡ p.openings) where
  pub advances_at : (progress : Progress) → moves.Advances w command reply p.limits.share (is_open_at p.openings c.guest) c.guest c c' p.queues p'.queues progress
      → Advances w command reply (state_of cs p l) (state_of (set cs g (Some c')) p' l) g progress
  advances_at = advances_some w command reply (state_of cs p l) (state_of (set cs g (Some c')) p' l) g f c c' (read_at cs g o c r e h) refl k

  pub under_way_at : moves.IsUnderWay w command reply p.limits.share (is_open_at p.openings c.guest) (queue_at p.queues c.guest) c' c'.pending
      → IsUnderWayAt w command reply (state_of cs p l) (state_of (set cs g (Some c')) p' l) g
  under_way_at = under_way w command reply (state_of cs p l) (state_of (set cs g (Some c')) p' l) g f c c' (read_at cs g o c r e h) refl k
