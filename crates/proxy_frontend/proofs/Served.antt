-- What was seen of all guests, call by call.
use Rattle.std.proofs.Common.{◌≡◌, ◌≢◌, ℕ, zero, suc, ◌≤◌, Bool, true, false, cond, ◌==◌, List, [], length, Option, Some, None, set, refl, sym, ◌∙◌, ap, subst, arith, eqb-true}
use Rattle.std.specs.Option.{option_map}
use Rattle.std.proofs.lemmas.List.{get_or_past, get_or-set_same, get_or-set_other}
use Rattle.proxy_core.specs.declared.outcome.Outcome.{Outcome}
use Rattle.proxy_core.specs.declared.queue.Entry.{Entry}
use Rattle.proxy_core.specs.Batch.{outcomes_of}
use Rattle.proxy_core.specs.Guests.{queue_at, is_open_at, free_from}
use Rattle.proxy_core.specs.Moves.{Renews, Settles}
use Rattle.proxy_core.specs.Queue.{settled}
use Rattle.proxy_core.specs.Sees.{Told}
use Rattle.proxy_connection.specs.declared.connection.Connection.{Connection}
use Rattle.proxy_connection.specs.History.{History, then}
use Rattle.proxy_connection.specs.Serving.{Goes}
use Rattle.proxy_connection.specs.Ways.{Ways}
use Rattle.proxy_connection.proofs.Served.{turn_told}
use Rattle.proxy_frontend.specs.Histories.{Histories, only, told}
use Rattle.proxy_frontend.specs.Places.{Places, SameOthers}
use Rattle.proxy_frontend.specs.Serving.{AllGo, AllStay, Always, AreServed, IsServed, IsServedAt}
use Rattle.proxy_frontend.specs.State.{State, connection_at}
use Rattle.proxy_frontend.proofs.Numbers.{free_open}
use Rattle.proxy_frontend.proofs.Places.{within}

module _ {T C V : Type 0} (w : Ways T C V) where
  -- ---- one number

  -- the same stands there
  pub same_place : (n : ℕ) (o o' : Option (Connection T C V)) (b b' : Bool) (q q' : List (Entry C V)) (h : Option (History T C V))
      → o' ≡ o → b' ≡ b → q' ≡ q → IsServed w n o b q h → IsServed w n o' b' q' h
  same_place n o o' b b' q q' h e f k s =
      subst (λ (x : Option (Connection T C V)). IsServed w n x b' q' h) (sym e)
      (subst (λ (x : Bool). IsServed w n o x q' h) (sym f) (subst (λ (x : List (Entry C V)). IsServed w n o b x h) (sym k) s))

  number_of : (n : ℕ) (c : Connection T C V) (b : Bool) (q : List (Entry C V)) (h : Option (History T C V)) → IsServed w n (Some c) b q h → c.guest ≡ n
  number_of n c b q None s = absurd s
  number_of n c b q (Some h) s = s.1

  -- what is served at number g, by the connection there, or where there is none
  pub served_by : (state : State T C V) (histories : Histories T C V) (g : ℕ) (o : Option (Connection T C V)) → connection_at state.connections g ≡ o → AreServed w state histories
      → IsServed w g o (is_open_at state.proxy.openings g) (queue_at state.proxy.queues g) (histories g)
  served_by state histories g o e s =
      subst (λ (x : Option (Connection T C V)). IsServed w g x (is_open_at state.proxy.openings g) (queue_at state.proxy.queues g) (histories g)) e (s g)

  pub own_number : (state : State T C V) (histories : Histories T C V) (g : ℕ) (c : Connection T C V) → connection_at state.connections g ≡ Some c → AreServed w state histories → c.guest ≡ g
  own_number state histories g c e s =
      number_of g c (is_open_at state.proxy.openings g) (queue_at state.proxy.queues g) (histories g) (served_by state histories g (Some c) e s)

  moved_here : (n : ℕ) (c c' : Connection T C V) (b : Bool) (q q' : List (Entry C V)) (more : History T C V → History T C V) (h : Option (History T C V))
      → c'.guest ≡ c.guest → Goes w c q c' q' more → IsServed w n (Some c) b q h → IsServed w n (Some c') b q' (option_map more h)
  moved_here n c c' b q q' more None k go s = absurd s
  moved_here n c c' b q q' more (Some h) k go s = (s.0, k ∙ s.1, go h s.2)

  gone : (n : ℕ) (b : Bool) (q : List (Entry C V)) (h : Option (History T C V)) → IsServed w n None b q h → (q ≡ []) × IsServed w n None false [] h
  gone n b q None s = (s.1, (refl, refl))
  gone n b q (Some h) s = absurd s

  told_here : (n : ℕ) (o : Option (Connection T C V)) (b : Bool) (q : List (Entry C V)) (outcomes : List (Outcome V)) (h : Option (History T C V))
      → IsServed w n o b q h → IsServed w n o b (settled w.overlaps q outcomes) (option_map (λ x. then x (Told outcomes)) h)
  told_here n (Some c) b q outcomes (Some h) s = (s.0, s.1, turn_told w c q outcomes h s.2)
  told_here n None b q outcomes None s = (s.0, ap (λ (x : List (Entry C V)). settled w.overlaps x outcomes) s.1)
  told_here n (Some c) b q outcomes None s = absurd s
  told_here n None b q outcomes (Some h) s = absurd s

  connected : (n : ℕ) (o : Option (Connection T C V)) (b : Bool) (q : List (Entry C V)) (h : Option (History T C V)) → b ≡ true → IsServed w n o b q h → (c : Connection T C V) × (o ≡ Some c)
  connected n (Some c) b q h e s = (c, refl)
  connected n None b q None e s = absurd (let f = s.0 in let no : ⊥ = cc in no)
  connected n None b q (Some h) e s = absurd s

  unchanged : (b : Bool) (h : Option (History T C V)) → cond b (option_map (λ x. x) h) h ≡ h
  unchanged true None = refl
  unchanged true (Some h) = refl
  unchanged false h = refl

  -- ---- one call

  module _ (old new : State T C V) where
    pub told_all : (batch : List (ℕ × C)) (outcomes : List (Outcome V)) → new.connections ≡ old.connections → new.proxy.openings ≡ old.proxy.openings
        → Settles w.overlaps old.proxy.queues new.proxy.queues batch outcomes → AllGo w old new (told batch outcomes)
    told_all batch outcomes e f settles histories s n =
        let os = outcomes_of n batch outcomes in
        same_place n _ _ _ _ (settled w.overlaps (queue_at old.proxy.queues n) os) _ _ (ap (λ (cs : List (Option (Connection T C V))). connection_at cs n) e) (ap (λ (bs : List Bool). is_open_at bs n) f) (settles n).1
        (told_here n (connection_at old.connections n) (is_open_at old.proxy.openings n) (queue_at old.proxy.queues n) os (histories n) (s n))

    module _ (g : ℕ) where
      pub unmoved : AllGo w old new (only g (option_map (λ h. h))) → AllStay w old new
      unmoved goes histories s n =
          subst (λ (h : Option (History T C V)). IsServedAt w new n h)
          (unchanged (g == n) (histories n)) (goes histories s n)

      -- the guest's connection moved
      module _ (c c' : Connection T C V) (more : History T C V → History T C V) (was : connection_at old.connections g ≡ Some c) (made : new.connections ≡ set old.connections g (Some c')) where
        pub now_at : connection_at new.connections g ≡ Some c'
        now_at = ap (λ (cs : List (Option (Connection T C V))). connection_at cs g) made ∙ get_or-set_same old.connections g (Some c') None (within old.connections g c was)

        pub moved : c'.guest ≡ c.guest → new.proxy.openings ≡ old.proxy.openings → SameOthers c.guest old.proxy.queues new.proxy.queues
            → Goes w c (queue_at old.proxy.queues c.guest) c' (queue_at new.proxy.queues c.guest) more → AllGo w old new (only g (option_map more))
        moved k f others go histories s n = at (g == n) refl where
          own : c.guest ≡ g
          own = own_number old histories g c was s

          go_own : Goes w c (queue_at old.proxy.queues g) c' (queue_at new.proxy.queues g) more
          go_own = subst (λ (i : ℕ). Goes w c (queue_at old.proxy.queues i) c' (queue_at new.proxy.queues i) more) own go

          here : IsServedAt w new g (option_map more (histories g))
          here = same_place g (Some c') _ _ _ _ _ _ now_at (ap (λ (bs : List Bool). is_open_at bs g) f) refl
              (moved_here g c c' (is_open_at old.proxy.openings g) (queue_at old.proxy.queues g) (queue_at new.proxy.queues g) more (histories g) k go_own
              (served_by old histories g (Some c) was s))

          at : (b : Bool) → (g == n) ≡ b → IsServedAt w new n (cond b (option_map more (histories n)) (histories n))
          at true e =
              subst (λ (i : ℕ). IsServedAt w new i (option_map more (histories i))) (eqb-true g n e) here
          at false e =
              let other : n ≢ g = grind arith in
              same_place n _ _ _ _ _ _ (histories n) (ap (λ (cs : List (Option (Connection T C V))). connection_at cs n) made ∙ get_or-set_other old.connections g n (Some c') None other)
              (ap (λ (bs : List Bool). is_open_at bs n) f) (others n (λ same. other (same ∙ own))) (s n)

      -- ---- a guest's place is taken, or free

      pub renewed : (o : Option (Connection T C V)) (b : Bool) (h : Option (History T C V)) → Renews old.proxy new.proxy g b → Places old.connections new.connections g o
          → IsServed w g o b [] h → AllGo w old new (only g (λ x. h))
      renewed o b h renews places so histories s n = at (g == n) refl where
        here : IsServedAt w new g h
        here = same_place g o _ b _ [] _ h places.0 renews.1 renews.0 so

        at : (x : Bool) → (g == n) ≡ x → IsServedAt w new n (cond x h (histories n))
        at true e = subst (λ (i : ℕ). IsServedAt w new i h) (eqb-true g n e) here
        at false e =
            let other : n ≢ g = grind arith in
            same_place n _ _ _ _ _ _ (histories n) (places.1 n other) (renews.3 n other).1 (renews.3 n other).0 (s n)

      -- it joins, has no place for its connection, and leaves again
      module _ (mid : State T C V) (same : new.connections ≡ old.connections) (no_place : length old.connections ≤ g) (joins : Renews old.proxy mid.proxy g true) (leaves : Renews mid.proxy new.proxy g false) where
        nobody_was : connection_at old.connections g ≡ None
        nobody_was = get_or_past old.connections g None no_place

        gone_at : (histories : Histories T C V) → AreServed w old histories → (queue_at old.proxy.queues g ≡ []) × IsServed w g None false [] (histories g)
        gone_at histories s =
            gone g (is_open_at old.proxy.openings g) (queue_at old.proxy.queues g) (histories g)
            (served_by old histories g None nobody_was s)

        pub refused : AllStay w old new
        refused histories s n = at (g == n) refl where
          here : IsServedAt w new g (histories g)
          here = same_place g None _ false _ [] _ (histories g) (ap (λ (cs : List (Option (Connection T C V))). connection_at cs g) same ∙ nobody_was) leaves.1 leaves.0 (gone_at histories s).1

          at : (x : Bool) → (g == n) ≡ x → IsServedAt w new n (histories n)
          at true e = subst (λ (i : ℕ). IsServedAt w new i (histories i)) (eqb-true g n e) here
          at false e =
              let other : n ≢ g = grind arith in
              same_place n _ _ _ _ _ _ (histories n) (ap (λ (cs : List (Option (Connection T C V))). connection_at cs n) same)
              ((leaves.3 n other).1 ∙ (joins.3 n other).1) ((leaves.3 n other).0 ∙ (joins.3 n other).0) (s n)

        pub refused_queues : Always w old (λ histories. (n : ℕ) → queue_at new.proxy.queues n ≡ queue_at old.proxy.queues n)
        refused_queues histories s n = at (g == n) refl where
          at : (x : Bool) → (g == n) ≡ x → queue_at new.proxy.queues n ≡ queue_at old.proxy.queues n
          at true e = subst (λ (i : ℕ). queue_at new.proxy.queues i ≡ queue_at old.proxy.queues i) (eqb-true g n e) (leaves.0 ∙ sym (gone_at histories s).0)
          at false e = let other : n ≢ g = grind arith in (leaves.3 n other).0 ∙ (joins.3 n other).0

    -- below the first number that is free each guest has its connection
    pub room : (histories : Histories T C V) → AreServed w old histories → (g : ℕ) → g ≡ free_from 0 old.proxy.openings → g ≤ length old.connections
    room histories s zero e = omega arith
    room histories s (suc g) e =
        let taken = free_open old.proxy.openings 0 g (omega arith) in
        let some = connected g (connection_at old.connections g) (is_open_at old.proxy.openings g) (queue_at old.proxy.queues g) (histories g) taken (s g) in
        let less = within old.connections g some.0 some.1 in omega arith
