-- A run stays within the limits.
use Rattle.std.proofs.Common.{◌≡◌, ◌≢◌, ℕ, ◌<◌, ◌≤◌, Bool, true, false, ◌==◌, List, [], ◌∷◌, ◌++◌, length, refl, sym, ◌∙◌, ap, subst, arith, eqb-true}
use Rattle.std.proofs.lemmas.List.{get_or-set_other}
use Rattle.proxy_core.specs.declared.limits.Limits.{Limits}
use Rattle.proxy_core.specs.declared.queue.Entry.{Entry}
use Rattle.proxy_core.specs.declared.queue.Entry.TheVariants.{Reads}
use Rattle.proxy_core.specs.Batch.{Asks, outcomes_of}
use Rattle.proxy_core.specs.Guests.{Queues, queue_at, is_open_at}
use Rattle.proxy_core.specs.Moves.{Puts, Takes, Renews}
use Rattle.proxy_core.specs.State.{State}
use Rattle.proxy_core.specs.Steps.{Step, Joined, NotJoined, Put, NotPut, Took, NotTook, Left, Turned, NotTurned, Makes, Runs, Keeps, SameGuests}
use Rattle.proxy_core.specs.Shares.{IsWithin}
use Rattle.proxy_core.proofs.ShareLemmas.{length-settled}

module _ {C V : Type 0} where
  -- the guests and limits are those before, and no queue has grown
  shorter : (old new : State C V) → SameGuests old new → ((g : ℕ) → length (queue_at new.queues g) ≤ length (queue_at old.queues g)) → IsWithin old → IsWithin new
  shorter old new same less w = (
    λ g. let a = less g in let b = w.0 g in let l = ap (λ (x : Limits). x.share.entries) same.1 in omega arith,
    λ g o. let b = w.1 g (sym (ap (λ bs. is_open_at bs g) same.0) ∙ o) in let l = ap (λ (x : Limits). x.guests) same.1 in omega arith,
  )

  kept : (old new : State C V) → Keeps old new → IsWithin old → IsWithin new
  kept old new k w = shorter old new k.1 (λ g. let e = ap (λ (qs : Queues C V). length (queue_at qs g)) k.0 in omega arith) w

  put_length : (b : Bool) (h g n : ℕ) (e : Entry C V) (qs qs' : Queues C V) → (h == g) ≡ b → Puts qs qs' h e → length (queue_at qs' h) ≤ n → length (queue_at qs g) ≤ n → length (queue_at qs' g) ≤ n
  put_length true h g n e qs qs' s p l k = subst (λ i. length (queue_at qs' i) ≤ n) (eqb-true h g s) l
  put_length false h g n e qs qs' s p l k =
      let other : g ≢ h = grind arith in
      let same = ap (λ (xs : Queues C V). length (queue_at xs g)) p.1 ∙ ap (λ (q : List (Entry C V)). length q) (get_or-set_other qs h g (queue_at qs h ++ e ∷ []) [] other) in omega arith

  take_length : (b : Bool) (h g : ℕ) (v : V) (qs qs' : Queues C V) → (h == g) ≡ b → Takes qs qs' h v → length (queue_at qs' g) ≤ length (queue_at qs g)
  take_length true h g v qs qs' s t =
      let first : length (queue_at qs h) ≡ length (Reads v ∷ queue_at qs' h) = ap (λ (q : List (Entry C V)). length q) t.1 in
      let less : length (queue_at qs' h) ≤ length (queue_at qs h) = omega arith in
      subst (λ i. length (queue_at qs' i) ≤ length (queue_at qs i)) (eqb-true h g s) less
  take_length false h g v qs qs' s t =
      let other : g ≢ h = grind arith in
      let same = ap (λ (xs : Queues C V). length (queue_at xs g)) t.2 ∙ ap (λ (q : List (Entry C V)). length q) (get_or-set_other qs h g (queue_at qs' h) [] other) in omega arith

  renew_length : (b : Bool) (h g : ℕ) (is_there : Bool) (old new : State C V) → (h == g) ≡ b → Renews old new h is_there → IsWithin old → length (queue_at new.queues g) ≤ new.limits.share.entries
  renew_length true h g is_there old new s r w =
      let none = ap (λ (q : List (Entry C V)). length q) (ap (queue_at new.queues) (sym (eqb-true h g s)) ∙ r.0) in omega arith
  renew_length false h g is_there old new s r w =
      let other : g ≢ h = grind arith in
      let same = ap (λ (q : List (Entry C V)). length q) (r.3 g other).0 in
      let l = ap (λ (x : Limits). x.share.entries) r.2 in
      let b = w.0 g in omega arith

  renew_number : (b : Bool) (h g : ℕ) (is_there : Bool) (old new : State C V) → (h == g) ≡ b → Renews old new h is_there → (is_there ≡ true → h < old.limits.guests) → IsWithin old
      → is_open_at new.openings g ≡ true → g < new.limits.guests
  renew_number true h g is_there old new s r n w o =
      let same : h ≡ g = eqb-true h g s in
      let there = n (sym r.1 ∙ ap (is_open_at new.openings) same ∙ o) in
      let l = ap (λ (x : Limits). x.guests) r.2 in omega arith
  renew_number false h g is_there old new s r n w o =
      let other : g ≢ h = grind arith in
      let b = w.1 g (sym (r.3 g other).1 ∙ o) in
      let l = ap (λ (x : Limits). x.guests) r.2 in omega arith

  module _ (overlaps : C → C → Bool) (command : C → ℕ) (reply : V → ℕ) {S : Type 0} (asks : Asks S C V) where
    step_within : (step : Step C V) (old : State C V) (s : S) (new : State C V) (s' : S) → Makes overlaps command reply asks step old s new s' → IsWithin old → IsWithin new
    step_within (Joined h) old s new s' m w =
        (λ g. renew_length (h == g) h g true old new refl m.2 w, λ g o. renew_number (h == g) h g true old new refl m.2 (λ t. m.1) w o)
    step_within (NotJoined why) old s new s' m w = kept old new m.1 w
    step_within (Put h e) old s new s' m w = (
      λ g. let a = put_length (h == g) h g old.limits.share.entries e old.queues new.queues refl m.1 m.2 (w.0 g) in let l = ap (λ (x : Limits). x.share.entries) m.4.1 in omega arith,
      λ g o. let b = w.1 g (sym (ap (λ bs. is_open_at bs g) m.4.0) ∙ o) in let l = ap (λ (x : Limits). x.guests) m.4.1 in omega arith,
    )
    step_within (NotPut h e why) old s new s' m w = kept old new m.1 w
    step_within (Took h v) old s new s' m w = shorter old new m.1 (λ g. take_length (h == g) h g v old.queues new.queues refl m.0) w
    step_within (NotTook h) old s new s' m w = kept old new m.1 w
    step_within (Left h) old s new s' m w =
        (λ g. renew_length (h == g) h g false old new refl m.0 w, λ g o. renew_number (h == g) h g false old new refl m.0 (λ t. absurd (cc t)) w o)
    step_within (Turned batch outcomes) old s new s' m w =
        shorter old new m.3 (λ g. let e = ap (λ (q : List (Entry C V)). length q) (m.2 g).1 ∙ length-settled overlaps (queue_at old.queues g) (outcomes_of g batch outcomes) in omega arith) w
    step_within NotTurned old s new s' m w = kept old new m.0 w

    pub run_within : (steps : List (Step C V)) (old : State C V) (s : S) (new : State C V) (s' : S) → Runs overlaps command reply asks steps old s new s' → IsWithin old → IsWithin new
    run_within [] old s new s' r w = subst (λ (st : State C V). IsWithin st) (sym r.0) w
    run_within (step ∷ steps) old s new s' r w = run_within steps r.0 r.1 new s' r.3 (step_within step old s r.0 r.1 r.2 w)
