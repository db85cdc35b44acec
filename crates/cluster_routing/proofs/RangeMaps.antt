-- Places in lists of ranges.
use Rattle.std.proofs.Common.{◌≡◌, ℕ, zero, suc, ◌<◌, ◌≤◌, ◌-◌, Bool, true, false, nat_lt, ◌==◌, if◌then◌else◌, List, [], ◌∷◌, length, set, Some, None, slice_get, refl, sym, ap, arith}
use mathlib.Core.Bool.{false≢true}
use Rattle.std.specs.Bool.{⊤}
use Rattle.std.specs.List.{insert}
use Rattle.std.specs.List.Sorted.{IsNonDecreasingBy, IsPartitionPoint}
use Rattle.std.proofs.lemmas.Bool.Decides.{nat_tests}
use Rattle.std.proofs.lemmas.Grind.{common_steps}
use Rattle.std.proofs.lemmas.Option.{gets}
use Rattle.cluster_routing.specs.RangePlaces.{ends_at, place_from}
use Rattle.cluster_routing.specs.Ranges.{Entry, put, first_from, IsAscending, IsBelowEnds}

-- the ends rise from place to place
pub ends_rise : {V : Type 0} (es : List (Entry V)) → IsAscending es → IsNonDecreasingBy (λ e. e.0) es
ends_rise [] h i j d le within = absurd (omega (arith, within))
ends_rise (q ∷ qs) h zero zero d le within = omega arith
ends_rise (q ∷ []) h zero (suc j) d le within = absurd (omega (arith, within))
ends_rise (q ∷ r ∷ qs) h zero (suc j) d le within = omega (arith, h.0, ends_rise (r ∷ qs) h.1 zero j d (omega arith) (omega (arith, within)))
ends_rise (q ∷ qs) h (suc i) zero d le within = absurd (omega (arith, le))
ends_rise (q ∷ qs) h (suc i) (suc j) d le within = ends_rise qs h.1 i j d (omega (arith, le)) (omega (arith, within))

-- where the ends before a place are below the slot, and no other is, that is the place
pub place_is : {V : Type 0} (slot : ℕ) (es : List (Entry V)) (k : ℕ) → k ≤ length es → IsPartitionPoint (λ e. nat_lt e.0 slot ≡ true) (λ e. nat_lt e.0 slot ≡ false) es k → k ≡ place_from slot es
place_is slot [] k within h = omega (arith, within)
place_is slot (q ∷ qs) zero within h = rw (h.1 zero q (omega arith) (omega arith)) refl
place_is slot (q ∷ qs) (suc k) within h = rw (h.0 zero q (omega arith) (omega arith)) (ap suc (place_is slot qs k (omega (arith, within)) (λ i d a b. h.0 (suc i) d (omega arith) (omega (arith, b)), λ i d a b. h.1 (suc i) d (omega (arith, a)) (omega (arith, b)))))

-- the place behind the last, where the last end is below the slot
pub behind_last : {V : Type 0} (slot : ℕ) (es : List (Entry V)) (x : Entry V) → IsAscending es → Some x ≡ slice_get es (length es - 1) → x.0 < slot → length es ≡ place_from slot es
behind_last slot es x h e l = place_is slot es (length es) (omega arith) (λ i d a b. grind (arith, nat_tests, common_steps, gets, ends_rise es h i (length es - 1) d), λ i d a b. absurd (omega (arith, a, b)))

pub none_last : {V : Type 0} (slot : ℕ) (es : List (Entry V)) → None ≡ slice_get es (length es - 1) → 0 ≡ place_from slot es
none_last slot [] e = refl
none_last slot (q ∷ qs) e = grind (arith, common_steps, gets)

-- what stands at the place
pub reached : {V : Type 0} (slot : ℕ) (es : List (Entry V)) → slice_get es (place_from slot es) ≡ first_from slot es
reached slot [] = refl
reached slot (q ∷ qs) = by (nat_lt q.0 slot) (reached slot qs)
  where
    by : (b : Bool) → slice_get qs (place_from slot qs) ≡ first_from slot qs → slice_get (q ∷ qs) (if b then suc (place_from slot qs) else 0) ≡ (if b then first_from slot qs else Some q)
    by true h = h
    by false h = refl

pub within : {V : Type 0} (slot : ℕ) (es : List (Entry V)) → place_from slot es ≤ length es
within slot [] = omega arith
within slot (q ∷ qs) = grind (arith, nat_tests, within slot qs)

-- an entry with an equal end is replaced
pub put_over : {V : Type 0} (es : List (Entry V)) (e : Entry V) (k : ℕ) → k ≡ place_from e.0 es → true ≡ ends_at e.0 (slice_get es k) → set es k e ≡ put es e
put_over [] e k p h = absurd (false≢true (sym h))
put_over (q ∷ qs) e zero p h = grind (arith, nat_tests)
put_over (q ∷ qs) e (suc k) p h = grind (arith, nat_tests, put_over qs e k)

-- another is put between those with lower ends and those with higher ones
pub put_between : {V : Type 0} (es : List (Entry V)) (e : Entry V) (k : ℕ) → k ≡ place_from e.0 es → false ≡ ends_at e.0 (slice_get es k) → insert es k e ≡ put es e
put_between [] e k p h = rw p refl
put_between (q ∷ qs) e zero p h = grind (arith, nat_tests)
put_between (q ∷ qs) e (suc k) p h = grind (arith, nat_tests, put_between qs e k)

below-put : {V : Type 0} (n : ℕ) (es : List (Entry V)) (e : Entry V) → n < e.0 → IsBelowEnds n es → IsBelowEnds n (put es e)
below-put n [] e l h = l
below-put n (q ∷ qs) e l h = by (nat_lt e.0 q.0) (e.0 == q.0)
  where
    by : (a b : Bool) → IsBelowEnds n (if a then e ∷ (q ∷ qs) else (if b then e ∷ qs else q ∷ put qs e))
    by true b = l
    by false true = l
    by false false = h

below-more : {V : Type 0} (m n : ℕ) (es : List (Entry V)) → m ≤ n → IsBelowEnds n es → IsBelowEnds m es
below-more m n [] l h = tt
below-more m n (q ∷ qs) l h = omega (arith, l, h)

pub put_ascends : {V : Type 0} (es : List (Entry V)) (e : Entry V) → IsAscending es → IsAscending (put es e)
put_ascends [] e h = (tt, tt)
put_ascends (q ∷ qs) e h = by (put_ascends qs e h.1) (nat_lt e.0 q.0) (e.0 == q.0) refl refl
  where
    by : IsAscending (put qs e) → (a b : Bool) → a ≡ nat_lt e.0 q.0 → b ≡ (e.0 == q.0) → IsAscending (if a then e ∷ (q ∷ qs) else (if b then e ∷ qs else q ∷ put qs e))
    by r true b k l = (grind (arith, nat_tests, k), h)
    by r false true k l = (below-more e.0 q.0 qs (grind (arith, nat_tests, l)) h.0, h.1)
    by r false false k l = (below-put q.0 qs e (grind (arith, nat_tests, k, l)) h.0, r)

-- ends above a number
abbrev pub AllAbove : {V : Type 0} → ℕ → List (Entry V) → Type 0
AllAbove e [] = ⊤
AllAbove e (q ∷ qs) = (e < q.0) × AllAbove e qs

pub above-less : {V : Type 0} (d e : ℕ) (qs : List (Entry V)) → d < e → AllAbove e qs → AllAbove d qs
above-less d e [] l h = tt
above-less d e (q ∷ qs) l h = (below d e q.0 l h.0, above-less d e qs l h.1)
  where
    below : (a b c : ℕ) → a < b → b < c → a < c
    below a b c k m = omega arith

pub above-rest : {V : Type 0} (e : ℕ) (qs : List (Entry V)) → IsBelowEnds e qs → IsAscending qs → AllAbove e qs
above-rest e [] b h = tt
above-rest e (q ∷ qs) b h = (b, above-less e q.0 qs b (above-rest q.0 qs h.0 h.1))
