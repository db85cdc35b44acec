-- Which nodes are lost in a run of link calls: those whose link call failed.
use Rattle.std.specs.Prelude.{◌||◌}
use Rattle.std.proofs.Common.{◌≡◌, ℕ, ◌+◌, Bool, true, false, cond, List, [], ◌∷◌, length, Some, Err, refl, sym, ap, ◌∙◌, subst}
use Rattle.std.proofs.lemmas.Bool.{false≢true}
use Rattle.resp_core.specs.Errors.{Refusal}
use Rattle.resp_link.specs.Replies.{replies_of}
use Rattle.cluster_routing.specs.Address.{Address, same_address}
use Rattle.cluster_calls.specs.Links.EachMade.{refusal_by, refusals_of}
use Rattle.cluster_calls.specs.Links.Events.{Event, Ending, answers, fails, EndsBy, LinkCalled, Runs, exchanges_at, exchanges_of, is_answer_ending}
use Rattle.cluster_calls.specs.Links.Faults.{io, grammar, no_memory}
use Rattle.cluster_calls.specs.Links.Log.{has_lost}
use Rattle.cluster_calls.specs.Links.World.{Node, link_at, is_usable}
use Rattle.cluster_calls.specs.Calls.Each.{lost, fate_of}
use Rattle.cluster_calls.proofs.LinkLaws.Addresses.{same_true}
use Rattle.cluster_calls.proofs.LinkLaws.EndLaws.{ends_pairs, ends_usable, ends_was_open}
use Rattle.cluster_calls.proofs.LinkLaws.LinkPlaces.{set_other}
use Rattle.cluster_calls.proofs.LinkLaws.LinkRuns.{link_behind}
use Rattle.cluster_calls.proofs.LinkLaws.NodeLaws.{lost_here}
use Rattle.cluster_calls.proofs.LinkLaws.Pairing.{other_lost, some_lost, has_lost-append}

-- ---- lost requests

-- a link call to another node loses nothing of this one
pub told_other : (old mid : List Node) (x : Event) (place : ℕ) → LinkCalled old mid x → (a : Address) → same_address x.node a ≡ false → has_lost a (exchanges_at place x) ≡ false
told_other old mid x place s a n = other_lost x.node a x.requests (replies_of x.taken) place s.to_node n

-- one that was refused loses its node, and an answered one does not
abbrev pub LosesBy : Ending → Bool → Type 0
LosesBy (answers replies) l = l ≡ false
LosesBy (fails fault) l = l ≡ true

pub told_here : (old mid : List Node) (x : Event) (place : ℕ) → LinkCalled old mid x → LosesBy x.ending (has_lost x.node (exchanges_at place x))
told_here old mid x place s = by x.ending s.ends
  where
    by : (e : Ending) → EndsBy s.before s.after x.requests x.taken e → LosesBy e (has_lost x.node (exchanges_at place x))
    by (answers replies) ends = lost_here x.node x.requests (replies_of x.taken) replies place (ends_pairs s.before s.after x.requests x.taken (answers replies) s.some ends)
    by (fails fault) ends = some_lost x.node x.requests (replies_of x.taken) place s.to_node (ends_pairs s.before s.after x.requests x.taken (fails fault) s.some ends)

-- ---- links that were closed

closed_by : (old mid new : List Node) (x : Event) (xs : List Event) → LinkCalled old mid x → (a : Address) → is_usable (link_at old a) ≡ false → (is_usable (link_at mid a) ≡ false → is_usable (link_at new a) ≡ false)
    → (b : Bool) → same_address x.node a ≡ b → is_usable (link_at new a) ≡ false
closed_by old mid new x xs s a shut h true t =
    let was : link_at old a ≡ Some s.before = subst (λ k. link_at old k ≡ Some s.before) (same_true x.node a t) s.found in
    absurd (false≢true (sym shut ∙ ap is_usable was ∙ ends_was_open s.before s.after x.requests x.taken x.ending s.ends))
closed_by old mid new x xs s a shut h false t = h (ap (λ ns. is_usable (link_at ns a)) s.now ∙ ap is_usable (set_other old x.node a s.after t) ∙ shut)

pub stays_closed : (old new : List Node) (xs : List Event) → Runs old new xs → (a : Address) → is_usable (link_at old a) ≡ false → is_usable (link_at new a) ≡ false
stays_closed old new [] r a shut = ap (λ ns. is_usable (link_at ns a)) r ∙ shut
stays_closed old new (x ∷ xs) r a shut = closed_by old r.0 new x xs r.1 a shut (λ k. stays_closed r.0 new xs r.2 a k) (same_address x.node a) refl

or_cases : (b c : Bool) → (b || c) ≡ true → (b ≡ false → c ≡ true)
or_cases true c e f = absurd (false≢true (sym f))
or_cases false c e f = e

-- a node with a lost request is closed behind the run
pub lost_closed : (old new : List Node) (xs : List Event) (place : ℕ) → Runs old new xs → (a : Address) → has_lost a (exchanges_of place xs) ≡ true → is_usable (link_at new a) ≡ false
lost_closed old new [] place r a l = absurd (false≢true l)
lost_closed old new (x ∷ xs) place r a l =
    by (same_address x.node a) refl (sym (has_lost-append a (exchanges_at place x) (exchanges_of (place + length x.requests) xs)) ∙ l) (λ k. lost_closed r.0 new xs (place + length x.requests) r.2 a k)
  where
    ended : (e : Ending) → x.ending ≡ e → LosesBy e (has_lost x.node (exchanges_at place x)) → (has_lost x.node (exchanges_at place x) || has_lost x.node (exchanges_of (place + length x.requests) xs)) ≡ true
        → (has_lost x.node (exchanges_of (place + length x.requests) xs) ≡ true → is_usable (link_at new x.node) ≡ false) → is_usable (link_at new x.node) ≡ false
    ended (answers replies) is h k ih = ih (or_cases _ _ k h)
    ended (fails fault) is h k ih =
        let shut : r.1.after.usable ≡ false = ends_usable r.1.before r.1.after x.requests x.taken x.ending r.1.ends ∙ ap is_answer_ending is in
        stays_closed r.0 new xs r.2 x.node (ap is_usable (link_behind old r.0 x r.1) ∙ shut)

    by : (b : Bool) → same_address x.node a ≡ b → (has_lost a (exchanges_at place x) || has_lost a (exchanges_of (place + length x.requests) xs)) ≡ true → (has_lost a (exchanges_of (place + length x.requests) xs) ≡ true → is_usable (link_at new a) ≡ false)
        → is_usable (link_at new a) ≡ false
    by true t k ih =
        let is = same_true x.node a t in
        subst (λ n. is_usable (link_at new n) ≡ false) is
        (ended x.ending refl (told_here old r.0 x place r.1) (subst (λ n. (has_lost n (exchanges_at place x) || has_lost n (exchanges_of (place + length x.requests) xs)) ≡ true) (sym is) k)
        (subst (λ n. has_lost n (exchanges_of (place + length x.requests) xs) ≡ true → is_usable (link_at new n) ≡ false) (sym is) ih))
    by false t k ih = ih (or_cases _ _ k (told_other old r.0 x place r.1 a t))

-- ---- by what a link call was refused

by_fate : (e : Ending) (later : Refusal) → fate_of (Err later) ≡ lost → fate_of (Err (refusal_by e later)) ≡ lost
by_fate (answers replies) later h = h
by_fate (fails io) later h = refl
by_fate (fails grammar) later h = refl
by_fate (fails no_memory) later h = refl

pub refusals_lose : (xs : List Event) (a : Address) → fate_of (Err (refusals_of xs a)) ≡ lost
refusals_lose [] a = refl
refusals_lose (x ∷ xs) a = by (same_address x.node a) (refusals_lose xs a)
  where
    by : (b : Bool) → fate_of (Err (refusals_of xs a)) ≡ lost → fate_of (Err (cond b (refusal_by x.ending (refusals_of xs a)) (refusals_of xs a))) ≡ lost
    by true h = by_fate x.ending (refusals_of xs a) h
    by false h = h
