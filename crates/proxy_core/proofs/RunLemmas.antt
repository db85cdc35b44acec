-- What a guest sees of a whole run.
use Rattle.std.proofs.Common.{◌≡◌, ◌≢◌, ℕ, ◌<◌, Bool, true, false, cond, ◌==◌, List, [], ◌∷◌, ◌++◌, length, get_or, set, refl, sym, ◌∙◌, ap, arith, eqb-true}
use Rattle.std.proofs.lemmas.List.{get_or-set_same, get_or-set_other}
use Rattle.proxy_core.specs.declared.outcome.Outcome.{Outcome}
use Rattle.proxy_core.specs.declared.queue.Entry.{Entry}
use Rattle.proxy_core.specs.declared.queue.Entry.TheVariants.{Reads}
use Rattle.proxy_core.specs.Queue.{settled}
use Rattle.proxy_core.specs.Batch.{Asks, outcomes_of}
use Rattle.proxy_core.specs.Guests.{Queues, queue_at}
use Rattle.proxy_core.specs.State.{State}
use Rattle.proxy_core.specs.Steps.{Step, Joined, NotJoined, Put, NotPut, Took, NotTook, Left, Turned, NotTurned, Makes, Runs}
use Rattle.proxy_core.specs.Sees.{Event, Came, Renewed, events_of, taken_by, sees, shown}

module _ {C V : Type 0} where
  module _ (overlaps : C → C → Bool) where
    -- what was taken is settled no more
    pub settled_shown : (vs : List V) (q : List (Entry C V)) (os : List (Outcome V)) → settled overlaps (shown vs q) os ≡ shown vs (settled overlaps q os)
    settled_shown [] q os = refl
    settled_shown (v ∷ vs) q os = ap (λ es. Reads v ∷ es) (settled_shown vs q os)

    pub shown_more : (vs : List V) (q : List (Entry C V)) (e : Entry C V) → shown vs (q ++ e ∷ []) ≡ shown vs q ++ e ∷ []
    shown_more [] q e = refl
    shown_more (v ∷ vs) q e = ap (λ es. Reads v ∷ es) (shown_more vs q e)

    pub shown_taken : (vs : List V) (v : V) (q : List (Entry C V)) → shown (vs ++ v ∷ []) q ≡ shown vs (Reads v ∷ q)
    shown_taken [] v q = refl
    shown_taken (w ∷ vs) v q = ap (λ es. Reads w ∷ es) (shown_taken vs v q)

    own_put : (b : Bool) (h g : ℕ) (e : Entry C V) (qs qs1 : Queues C V) (vs : List V) (events : List (Event C V)) → (h == g) ≡ b
        → h < length qs → qs1 ≡ set qs h (queue_at qs h ++ e ∷ [])
        → sees overlaps (shown vs (queue_at qs1 g)) events ≡ sees overlaps (shown vs (queue_at qs g)) (cond b (Came e ∷ events) events)
    own_put true h g e qs qs1 vs events s l k =
        let same : h ≡ g = eqb-true h g s in
        ap (λ q. sees overlaps (shown vs q) events) (ap (λ xs. queue_at xs g) k ∙ ap (λ n. get_or (set qs h (queue_at qs h ++ e ∷ [])) n []) (sym same) ∙ get_or-set_same qs h (queue_at qs h ++ e ∷ []) [] l ∙ ap (λ n. queue_at qs n ++ e ∷ []) same)
        ∙ ap (λ q. sees overlaps q events) (shown_more vs (queue_at qs g) e)
    own_put false h g e qs qs1 vs events s l k =
        let other : g ≢ h = grind arith in
        ap (λ q. sees overlaps (shown vs q) events) (ap (λ xs. queue_at xs g) k ∙ get_or-set_other qs h g (queue_at qs h ++ e ∷ []) [] other)

    own_take : (b : Bool) (h g : ℕ) (v : V) (qs qs1 : Queues C V) (vs : List V) (events : List (Event C V)) → (h == g) ≡ b
        → queue_at qs h ≡ Reads v ∷ queue_at qs1 h → qs1 ≡ set qs h (queue_at qs1 h)
        → sees overlaps (shown (cond b (vs ++ v ∷ []) vs) (queue_at qs1 g)) events ≡ sees overlaps (shown vs (queue_at qs g)) events
    own_take true h g v qs qs1 vs events s f k =
        let same : h ≡ g = eqb-true h g s in
        let first : queue_at qs g ≡ Reads v ∷ queue_at qs1 g = ap (queue_at qs) (sym same) ∙ f ∙ ap (λ n. Reads v ∷ queue_at qs1 n) same in
        ap (λ q. sees overlaps q events) (shown_taken vs v (queue_at qs1 g) ∙ ap (shown vs) (sym first))
    own_take false h g v qs qs1 vs events s f k =
        let other : g ≢ h = grind arith in
        ap (λ q. sees overlaps (shown vs q) events) (ap (λ xs. queue_at xs g) k ∙ get_or-set_other qs h g (queue_at qs1 h) [] other)

    own_renew : (b : Bool) (h g : ℕ) (qs qs1 : Queues C V) (vs : List V) (events : List (Event C V)) → (h == g) ≡ b
        → queue_at qs1 h ≡ [] → ((k : ℕ) → k ≢ h → queue_at qs1 k ≡ queue_at qs k)
        → sees overlaps (shown (cond b [] vs) (queue_at qs1 g)) events ≡ sees overlaps (shown vs (queue_at qs g)) (cond b (Renewed ∷ events) events)
    own_renew true h g qs qs1 vs events s k o =
        let same : h ≡ g = eqb-true h g s in
        ap (λ q. sees overlaps q events) (ap (queue_at qs1) (sym same) ∙ k)
    own_renew false h g qs qs1 vs events s k o =
        let other : g ≢ h = grind arith in
        ap (λ q. sees overlaps (shown vs q) events) (o g other)

    module _ (command : C → ℕ) (reply : V → ℕ) {S : Type 0} (asks : Asks S C V) where
      -- one call
      step_sees : (step : Step C V) (steps : List (Step C V)) (old : State C V) (s : S) (new : State C V) (s' : S) (g : ℕ) (vs : List V)
          → Makes overlaps command reply asks step old s new s' → sees overlaps (shown (taken_by g vs (step ∷ [])) (queue_at new.queues g)) (events_of g steps) ≡ sees overlaps (shown vs (queue_at old.queues g)) (events_of g (step ∷ steps))
      step_sees (Joined h) steps old s new s' g vs m =
          own_renew (h == g) h g old.queues new.queues vs (events_of g steps) refl m.2.0 (λ k o. (m.2.3 k o).0)
      step_sees (NotJoined why) steps old s new s' g vs m = ap (λ qs. sees overlaps (shown vs (queue_at qs g)) (events_of g steps)) m.1.0
      step_sees (Put h e) steps old s new s' g vs m =
          own_put (h == g) h g e old.queues new.queues vs (events_of g steps) refl m.1.0 m.1.1
      step_sees (NotPut h e why) steps old s new s' g vs m = ap (λ qs. sees overlaps (shown vs (queue_at qs g)) (events_of g steps)) m.1.0
      step_sees (Took h v) steps old s new s' g vs m =
          own_take (h == g) h g v old.queues new.queues vs (events_of g steps) refl m.0.1 m.0.2
      step_sees (NotTook h) steps old s new s' g vs m = ap (λ qs. sees overlaps (shown vs (queue_at qs g)) (events_of g steps)) m.1.0
      step_sees (Left h) steps old s new s' g vs m =
          own_renew (h == g) h g old.queues new.queues vs (events_of g steps) refl m.0.0 (λ k o. (m.0.3 k o).0)
      step_sees (Turned batch outcomes) steps old s new s' g vs m =
          ap (λ q. sees overlaps q (events_of g steps)) (ap (shown vs) (m.2 g).1 ∙ sym (settled_shown vs (queue_at old.queues g) (outcomes_of g batch outcomes)))
      step_sees NotTurned steps old s new s' g vs m = ap (λ qs. sees overlaps (shown vs (queue_at qs g)) (events_of g steps)) m.0.0

      taken_step : (step : Step C V) (steps : List (Step C V)) (g : ℕ) (vs : List V) → taken_by g vs (step ∷ steps) ≡ taken_by g (taken_by g vs (step ∷ [])) steps
      taken_step (Joined h) steps g vs = refl
      taken_step (NotJoined why) steps g vs = refl
      taken_step (Put h e) steps g vs = refl
      taken_step (NotPut h e why) steps g vs = refl
      taken_step (Took h v) steps g vs = refl
      taken_step (NotTook h) steps g vs = refl
      taken_step (Left h) steps g vs = refl
      taken_step (Turned batch outcomes) steps g vs = refl
      taken_step NotTurned steps g vs = refl

      pub run_sees : (steps : List (Step C V)) (old : State C V) (s : S) (new : State C V) (s' : S) → Runs overlaps command reply asks steps old s new s'
          → (g : ℕ) (vs : List V) → shown (taken_by g vs steps) (queue_at new.queues g) ≡ sees overlaps (shown vs (queue_at old.queues g)) (events_of g steps)
      run_sees [] old s new s' r g vs = ap (λ (st : State C V). shown vs (queue_at st.queues g)) r.0
      run_sees (step ∷ steps) old s new s' r g vs =
          ap (λ ws. shown ws (queue_at new.queues g)) (taken_step step steps g vs)
          ∙ run_sees steps r.0 r.1 new s' r.3 g (taken_by g vs (step ∷ []))
          ∙ step_sees step steps old s r.0 r.1 g vs r.2
