-- Places that are marked one after another, each once.
use Rattle.std.specs.Prelude.{nat_eq, nat_lt, slice_index_or, slice_set}
use Rattle.std.specs.List.{list_all}
use Rattle.std.proofs.Common.{◌≡◌, ℕ, zero, suc, ◌+◌, ◌<◌, Bool, true, false, not, ◌&&◌, ◌||◌, List, [], ◌∷◌, ◌++◌, length, map, drop, refl, sym, ap, ◌∙◌, arith, add-one, drop-cons}
use Rattle.std.proofs.Math.ListN.{replicate}
use Rattle.std.proofs.lemmas.Bool.Decides.{nat_tests}
use Rattle.std.proofs.lemmas.List.{map-append, length-replicate}
use Rattle.std.proofs.lemmas.List.Folds.{list_all-map}
use Rattle.cluster_routing.specs.Lists.{among, is_distinct, is_permutation, numbers_below}
use Rattle.cluster_routing.proofs.Distinct.{nat_tells}

-- ---- numbers below a count, from the front

pub below_front : (n : ℕ) → numbers_below (suc n) ≡ 0 ∷ map (λ i. suc i) (numbers_below n)
below_front zero = refl
below_front (suc n) = ap (λ ns. ns ++ suc n ∷ []) (below_front n) ∙ ap (λ ns. 0 ∷ ns) (sym (map-append (λ i. suc i) (numbers_below n) (n ∷ [])))

-- ---- one mark more

-- whether a place is too large, or marked
abbrev pub taken : List Bool → ℕ → Bool
taken marks p = slice_index_or marks p true

or_false : (b : Bool) → b ≡ (b || false)
or_false true = refl
or_false false = refl

or_true : (b : Bool) → true ≡ (b || true)
or_true true = refl
or_true false = refl

above : (q : ℕ) → false ≡ nat_eq (suc q) 0
above q = grind (arith, nat_tests)

under : (p : ℕ) → false ≡ nat_eq 0 (suc p)
under p = grind (arith, nat_tests)

same_suc : (p q : ℕ) → nat_eq q p ≡ nat_eq (suc q) (suc p)
same_suc p q = grind (arith, nat_tests)

pub taken_set : (marks : List Bool) (p q : ℕ) → taken marks p ≡ false → taken (slice_set marks p true) q ≡ (taken marks q || nat_eq q p)
taken_set [] p q h = cc
taken_set (m ∷ ms) zero zero h = or_true m
taken_set (m ∷ ms) zero (suc q) h = or_false (taken ms q) ∙ ap (λ b. taken ms q || b) (above q)
taken_set (m ∷ ms) (suc p) zero h = or_false m ∙ ap (λ b. m || b) (under p)
taken_set (m ∷ ms) (suc p) (suc q) h = taken_set ms p q h ∙ ap (λ b. taken ms q || b) (same_suc p q)

apart : (a b l m : Bool) → (not (a || b) && (l && not m)) ≡ ((not a && l) && not (b || m))
apart true b l m = refl
apart false true true m = refl
apart false true false m = refl
apart false false l m = refl

free_set : (marks : List Bool) (p : ℕ) (ps : List ℕ) → taken marks p ≡ false → list_all (λ q. not (taken (slice_set marks p true) q)) ps ≡ (list_all (λ q. not (taken marks q)) ps && not (among nat_eq p ps))
free_set marks p [] h = refl
free_set marks p (q ∷ ps) h =
    ap (λ b. not b && list_all (λ q. not (taken (slice_set marks p true) q)) ps) (taken_set marks p q h ∙ ap (λ b. taken marks q || b) (nat_tells.turned q p))
    ∙ ap (λ b. not (taken marks q || nat_eq p q) && b) (free_set marks p ps h)
    ∙ apart (taken marks q) (nat_eq p q) (list_all (λ q. not (taken marks q)) ps) (among nat_eq p ps)

-- whether these places are free, and none stands twice
abbrev pub fresh : List Bool → List ℕ → Bool
fresh marks ps = list_all (λ p. not (taken marks p)) ps && is_distinct nat_eq ps

shifted : (a l m d : Bool) → a ≡ false → ((not a && l) && (m && d)) ≡ ((l && m) && d)
shifted true l m d h = cc
shifted false true m d h = refl
shifted false false m d h = refl

at : (places : List ℕ) (i : ℕ) → i < length places → drop i places ≡ slice_index_or places i 0 ∷ drop (i + 1) places
at places i h = rw add-one (drop-cons places i 0 h)

pub fresh_step : (marks : List Bool) (places : List ℕ) (i : ℕ) → i < length places → taken marks (slice_index_or places i 0) ≡ false → fresh marks (drop i places) ≡ fresh (slice_set marks (slice_index_or places i 0) true) (drop (i + 1) places)
fresh_step marks places i h f =
    let p : ℕ = slice_index_or places i 0 in
    let ps : List ℕ = drop (i + 1) places in
    ap (fresh marks) (at places i h) ∙ shifted (taken marks p) (list_all (λ q. not (taken marks q)) ps) (not (among nat_eq p ps)) (is_distinct nat_eq ps) f
    ∙ ap (λ b. b && is_distinct nat_eq ps) (sym (free_set marks p ps f))

or_assoc : (a b c : Bool) → (a || (b || c)) ≡ ((a || b) || c)
or_assoc true b c = refl
or_assoc false b c = refl

pub marked_step : (marks : List Bool) (places : List ℕ) (i q : ℕ) → i < length places → taken marks (slice_index_or places i 0) ≡ false
    → (taken marks q || among nat_eq q (drop i places)) ≡ (taken (slice_set marks (slice_index_or places i 0) true) q || among nat_eq q (drop (i + 1) places))
marked_step marks places i q h f =
    let p : ℕ = slice_index_or places i 0 in
    let ps : List ℕ = drop (i + 1) places in
    ap (λ l. taken marks q || among nat_eq q l) (at places i h) ∙ or_assoc (taken marks q) (nat_eq q p) (among nat_eq q ps) ∙ ap (λ b. b || among nat_eq q ps) (sym (taken_set marks p q f))

-- ---- all marks

below_suc : (p n : ℕ) → nat_lt p n ≡ nat_lt (suc p) (suc n)
below_suc p n = grind (arith, nat_tests)

free_at_first : (n p : ℕ) → not (taken (replicate n false) p) ≡ nat_lt p n
free_at_first zero p = grind (arith, nat_tests)
free_at_first (suc n) zero = grind (arith, nat_tests)
free_at_first (suc n) (suc p) = free_at_first n p ∙ below_suc p n

all_free : (n : ℕ) (ps : List ℕ) → list_all (λ p. not (taken (replicate n false) p)) ps ≡ list_all (λ i. nat_lt i n) ps
all_free n [] = refl
all_free n (p ∷ ps) = ap (λ b. b && list_all (λ p. not (taken (replicate n false) p)) ps) (free_at_first n p) ∙ ap (λ b. nat_lt p n && b) (all_free n ps)

all_taken : (marks : List Bool) → list_all (λ m. m) marks ≡ list_all (taken marks) (numbers_below (length marks))
all_taken [] = refl
all_taken (m ∷ ms) = ap (λ b. m && b) (all_taken ms ∙ sym (list_all-map (taken (m ∷ ms)) (λ i. suc i) (numbers_below (length ms)))) ∙ ap (list_all (taken (m ∷ ms))) (sym (below_front (length ms)))

all_same : (p q : ℕ → Bool) (n : ℕ) → ((i : ℕ) → i < n → p i ≡ q i) → list_all p (numbers_below n) ≡ list_all q (numbers_below n)
all_same p q zero h = refl
all_same p q (suc n) h =
    ap (list_all p) (below_front n) ∙ ap (λ b. b && list_all p (map (λ i. suc i) (numbers_below n))) (h 0 (omega arith))
    ∙ ap (λ b. q 0 && b) (list_all-map p (λ i. suc i) (numbers_below n) ∙ all_same (λ i. p (suc i)) (λ i. q (suc i)) n (λ i l. h (suc i) (omega (arith, l))) ∙ sym (list_all-map q (λ i. suc i) (numbers_below n)))
    ∙ ap (list_all q) (sym (below_front n))

taken_not : (b c : Bool) → not b ≡ true → (b || c) ≡ c
taken_not true c h = cc
taken_not false c h = refl

in_turn : (l a d : Bool) → ((l && d) && a) ≡ ((l && a) && d)
in_turn true true true = refl
in_turn true true false = refl
in_turn true false true = refl
in_turn true false false = refl
in_turn false a d = refl

-- the two tests together
pub permutes : (n : ℕ) (order : List ℕ) (old new : List Bool) (is_fresh : Bool) → old ≡ replicate n false → is_fresh ≡ fresh old order
    → (is_fresh ≡ true → (p : ℕ) → taken new p ≡ (taken old p || among nat_eq p order)) → length new ≡ length old → (is_fresh && list_all (λ m. m) new) ≡ is_permutation n order
permutes n order old new is_fresh e f m l = by is_fresh refl
  where
    tested : is_fresh ≡ (list_all (λ i. nat_lt i n) order && is_distinct nat_eq order)
    tested = f ∙ ap (λ o. fresh o order) e ∙ ap (λ b. b && is_distinct nat_eq order) (all_free n order)

    count : length new ≡ n
    count = l ∙ ap length e ∙ length-replicate n false

    whole : Bool → Bool
    whole a = (list_all (λ i. nat_lt i n) order && is_distinct nat_eq order) && a

    by : (b : Bool) → is_fresh ≡ b → (is_fresh && list_all (λ m. m) new) ≡ is_permutation n order
    by true h =
        ap (λ b. is_fresh && b) (
        all_taken new ∙ ap (λ k. list_all (taken new) (numbers_below k)) count
        ∙ all_same (taken new) (λ i. among nat_eq i order) n (λ i k. m h i ∙ taken_not (taken old i) (among nat_eq i order) (ap (λ o. not (taken o i)) e ∙ free_at_first n i ∙ grind (arith, nat_tests, k)))
        )
        ∙ ap (λ b. b && list_all (λ i. among nat_eq i order) (numbers_below n)) tested
        ∙ in_turn (list_all (λ i. nat_lt i n) order) (list_all (λ i. among nat_eq i order) (numbers_below n)) (is_distinct nat_eq order)
    by false h =
        ap (λ b. b && list_all (λ m. m) new) h ∙ ap (λ b. b && list_all (λ i. among nat_eq i order) (numbers_below n)) (sym h ∙ tested)
        ∙ in_turn (list_all (λ i. nat_lt i n) order) (list_all (λ i. among nat_eq i order) (numbers_below n)) (is_distinct nat_eq order)
