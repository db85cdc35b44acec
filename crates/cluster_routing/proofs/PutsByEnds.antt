-- Ranges put in one after another: only those with one end have to stand in their order.
use Rattle.std.proofs.Common.{◌≡◌, ℕ, ◌<◌, Bool, true, false, not, ◌&&◌, nat_lt, ◌==◌, if◌then◌else◌, List, [], ◌∷◌, filter, refl, sym, ap, ◌∙◌, subst, arith}
use Rattle.std.specs.List.Sorted.{ties}
use Rattle.std.specs.Ordering.{is_lt, nat_cmp}
use Rattle.std.proofs.lemmas.Bool.Decides.{nat_tests}
use Rattle.cluster_routing.specs.Ranges.{Entry, IsAscending, put}
use Rattle.cluster_routing.specs.SlotMap.{Nodes, SlotEntries, Range, entry_of, put_all}
use Rattle.cluster_routing.proofs.RangeMaps.{AllAbove, above-rest, above-less, put_ascends}

-- the entries with an end, of which an ascending list has one at most
abbrev with_end : {V : Type 0} → ℕ → List (Entry V) → List (Entry V)
with_end n es = filter (λ q. n == q.0) es

abbrev pub ranges_to : ℕ → List Range → List Range
ranges_to n rs = filter (λ (r : Range). n == r.last) rs

none_above : {V : Type 0} (n k : ℕ) (es : List (Entry V)) → (n == k) ≡ true → AllAbove k es → with_end n es ≡ []
none_above n k [] e h = refl
none_above n k (q ∷ qs) e h = ap (λ b. if b then q ∷ with_end n qs else with_end n qs) (unlike n k q.0 e h.0) ∙ none_above n k qs e h.1
  where
    unlike : (n k m : ℕ) → (n == k) ≡ true → k < m → (n == m) ≡ false
    unlike n k m e l = grind (arith, nat_tests, e)

-- ---- one entry

first_alone : {X : Type 0} (c : Bool) (x : X) (others : List X) → (c ≡ true → others ≡ []) → (if c then x ∷ others else others) ≡ (if c then x ∷ [] else others)
first_alone true x others h = ap (λ l. x ∷ l) (h refl)
first_alone false x others h = refl

in_place : {X : Type 0} (c d : Bool) (x q : X) (others : List X) → c ≡ d → (c ≡ true → others ≡ []) → (if c then x ∷ others else others) ≡ (if c then x ∷ [] else (if d then q ∷ others else others))
in_place true d x q others e h = ap (λ l. x ∷ l) (h refl)
in_place false true x q others e h = absurd (Bool_false_true e)
  where
    Bool_false_true : false ≡ true → ⊥
    Bool_false_true e = cc
in_place false false x q others e h = refl

further : {X : Type 0} (c d : Bool) (x q : X) (behind others : List X) → (d ≡ true → c ≡ false) → behind ≡ (if c then x ∷ [] else others) → (if d then q ∷ behind else behind) ≡ (if c then x ∷ [] else (if d then q ∷ others else others))
further c false x q behind others h e = e
further true true x q behind others h e = absurd (true_false (h refl))
  where
    true_false : true ≡ false → ⊥
    true_false e = cc
further false true x q behind others h e = ap (λ l. q ∷ l) e

-- an entry that is put in is the one with its end, and the others stay
with_end-put : {V : Type 0} (n : ℕ) (es : List (Entry V)) (x : Entry V) → IsAscending es → with_end n (put es x) ≡ (if n == x.0 then x ∷ [] else with_end n es)
with_end-put n [] x h = refl
with_end-put {V} n (q ∷ qs) x h = by (nat_lt x.0 q.0) (x.0 == q.0) refl refl (with_end-put n qs x h.1)
  where
    behind : AllAbove q.0 qs
    behind = above-rest q.0 qs h.0 h.1

    less : (a b : ℕ) → true ≡ nat_lt a b → a < b
    less a b k = grind (arith, nat_tests, k)

    alike : (n a b : ℕ) → true ≡ (a == b) → (n == a) ≡ (n == b)
    alike n a b k = grind (arith, nat_tests, k)

    unlike : (n a b : ℕ) → false ≡ (a == b) → (n == b) ≡ true → (n == a) ≡ false
    unlike n a b k e = grind (arith, nat_tests, k, e)

    by : (a b : Bool) → a ≡ nat_lt x.0 q.0 → b ≡ (x.0 == q.0) → with_end n (put qs x) ≡ (if n == x.0 then x ∷ [] else with_end n qs)
        → with_end n (if a then x ∷ (q ∷ qs) else (if b then x ∷ qs else q ∷ put qs x)) ≡ (if n == x.0 then x ∷ [] else with_end n (q ∷ qs))
    by true b k l r = first_alone (n == x.0) x (with_end n (q ∷ qs))
        (λ e. none_above n x.0 (q ∷ qs) e (less x.0 q.0 k, above-less x.0 q.0 qs (less x.0 q.0 k) behind))
    by false true k l r = in_place (n == x.0) (n == q.0) x q (with_end n qs) (alike n x.0 q.0 l)
        (λ e. none_above n q.0 qs (sym (alike n x.0 q.0 l) ∙ e) behind)
    by false false k l r = further (n == x.0) (n == q.0) x q (with_end n (put qs x)) (with_end n qs) (unlike n x.0 q.0 l) r

-- ---- all entries

-- of several ranges with an end the last stays
abbrev last_or : List (Entry Nodes) → List Range → List (Entry Nodes)
last_or es [] = es
last_or es (r ∷ rs) = last_or (entry_of r ∷ []) rs

with_end-put_all : (n : ℕ) (es : SlotEntries) (rs : List Range) → IsAscending es → with_end n (put_all es rs) ≡ last_or (with_end n es) (ranges_to n rs)
with_end-put_all n es [] h = refl
with_end-put_all n es (r ∷ rs) h = with_end-put_all n (put es (entry_of r)) rs (put_ascends es (entry_of r) h) ∙ ap (λ l. last_or l (ranges_to n rs)) (with_end-put n es (entry_of r) h) ∙ by (n == r.last)
  where
    by : (c : Bool) → last_or (if c then entry_of r ∷ [] else with_end n es) (ranges_to n rs) ≡ last_or (with_end n es) (if c then r ∷ ranges_to n rs else ranges_to n rs)
    by true = refl
    by false = refl

all_ascends : (es : SlotEntries) (rs : List Range) → IsAscending es → IsAscending (put_all es rs)
all_ascends es [] h = h
all_ascends es (r ∷ rs) h = all_ascends (put es (entry_of r)) rs (put_ascends es (entry_of r) h)

-- ---- ascending lists that have the same at each end

cons_nil : {X : Type 0} (x : X) (xs : List X) → x ∷ xs ≡ [] → ⊥
cons_nil x xs e = cc

first_has : {V : Type 0} (q : Entry V) (qs : List (Entry V)) → IsAscending (q ∷ qs) → with_end q.0 (q ∷ qs) ≡ q ∷ []
first_has q qs h = ap (λ b. if b then q ∷ with_end q.0 qs else with_end q.0 qs) (own q.0) ∙ ap (λ l. q ∷ l) (none_above q.0 q.0 qs (own q.0) (above-rest q.0 qs h.0 h.1))
  where
    own : (a : ℕ) → (a == a) ≡ true
    own a = grind (arith, nat_tests)

none_before : {V : Type 0} (n : ℕ) (q : Entry V) (qs : List (Entry V)) → IsAscending (q ∷ qs) → n < q.0 → with_end n (q ∷ qs) ≡ []
none_before n q qs h l = none_above n n (q ∷ qs) (own n) (l, above-less n q.0 qs l (above-rest q.0 qs h.0 h.1))
  where
    own : (a : ℕ) → (a == a) ≡ true
    own a = grind (arith, nat_tests)

same_first : {V : Type 0} (q p : Entry V) (qs ps : List (Entry V)) → IsAscending (q ∷ qs) → IsAscending (p ∷ ps) → ((n : ℕ) → with_end n (q ∷ qs) ≡ with_end n (p ∷ ps)) → q ≡ p
same_first {V} q p qs ps h k e = by (nat_lt q.0 p.0) (nat_lt p.0 q.0) refl refl
  where
    less : (a b : ℕ) → true ≡ nat_lt a b → a < b
    less a b k = grind (arith, nat_tests, k)

    equal : (a b : ℕ) → false ≡ nat_lt a b → false ≡ nat_lt b a → a ≡ b
    equal a b k l = grind (arith, nat_tests, k, l)

    head : (x y : Entry V) (xs ys : List (Entry V)) → x ∷ xs ≡ y ∷ ys → x ≡ y
    head x y xs ys e = cc

    by : (a b : Bool) → a ≡ nat_lt q.0 p.0 → b ≡ nat_lt p.0 q.0 → q ≡ p
    by true b i j = absurd (cons_nil q [] (sym (first_has q qs h) ∙ e q.0 ∙ none_before q.0 p ps k (less q.0 p.0 i)))
    by false true i j = absurd (cons_nil p [] (sym (first_has p ps k) ∙ sym (e p.0) ∙ none_before p.0 q qs h (less p.0 q.0 j)))
    by false false i j = head q p [] [] (sym (first_has q qs h) ∙ e q.0 ∙ ap (λ n. with_end n (p ∷ ps)) (equal q.0 p.0 i j) ∙ first_has p ps k)

same_rest : {V : Type 0} (q : Entry V) (qs ps : List (Entry V)) → IsAscending (q ∷ qs) → IsAscending (q ∷ ps) → ((n : ℕ) → with_end n (q ∷ qs) ≡ with_end n (q ∷ ps)) → (n : ℕ) → with_end n qs ≡ with_end n ps
same_rest q qs ps h k e n = by (n == q.0) refl (e n)
  where
    by : (c : Bool) → c ≡ (n == q.0) → (if c then q ∷ with_end n qs else with_end n qs) ≡ (if c then q ∷ with_end n ps else with_end n ps) → with_end n qs ≡ with_end n ps
    by true i r = none_above n q.0 qs (sym i) (above-rest q.0 qs h.0 h.1) ∙ sym (none_above n q.0 ps (sym i) (above-rest q.0 ps k.0 k.1))
    by false i r = r

-- with one first entry the lists are one where their rests are
same_lists : {V : Type 0} (q p : Entry V) (qs ps : List (Entry V)) → IsAscending (q ∷ qs) → IsAscending (p ∷ ps) → ((n : ℕ) → with_end n (q ∷ qs) ≡ with_end n (p ∷ ps)) → q ≡ p
    → (IsAscending ps → ((n : ℕ) → with_end n qs ≡ with_end n ps) → qs ≡ ps) → q ∷ qs ≡ p ∷ ps
same_lists q p qs ps h k e i rests =
    ap (λ l. q ∷ l) (rests k.1 (same_rest q qs ps h (subst (λ x. IsAscending (x ∷ ps)) (sym i) k) (λ n. e n ∙ ap (λ x. with_end n (x ∷ ps)) (sym i)))) ∙ ap (λ x. x ∷ ps) i

same_entries : {V : Type 0} (es ds : List (Entry V)) → IsAscending es → IsAscending ds → ((n : ℕ) → with_end n es ≡ with_end n ds) → es ≡ ds
same_entries [] [] h k e = refl
same_entries [] (p ∷ ps) h k e = absurd (cons_nil p [] (sym (first_has p ps k) ∙ sym (e p.0)))
same_entries (q ∷ qs) [] h k e = absurd (cons_nil q [] (sym (first_has q qs h) ∙ e q.0))
same_entries (q ∷ qs) (p ∷ ps) h k e =
    same_lists q p qs ps h k e (same_first q p qs ps h k e) (λ a b. same_entries qs ps h.1 a b)

-- ---- ranges in another order

pub put_all-by_ends : (rs ss : List Range) → ((n : ℕ) → ranges_to n rs ≡ ranges_to n ss) → put_all [] rs ≡ put_all [] ss
put_all-by_ends rs ss e = same_entries (put_all [] rs) (put_all [] ss) (all_ascends [] rs tt) (all_ascends [] ss tt)
    (λ n. with_end-put_all n [] rs tt ∙ ap (last_or []) (e n) ∙ sym (with_end-put_all n [] ss tt))

-- a range of no node in particular
abbrev range_to : ℕ → Range
range_to n = record { start = 0; last = n; nodes = record { primary = record { host = []; port = 0 }; replicas = [] } }

-- what a stable sort by the ends says
pub ranges_to-stable : (rs ss : List Range) → ((x : Range) → filter (ties (λ (a b : Range). is_lt (nat_cmp a.last b.last)) x) ss ≡ filter (ties (λ (a b : Range). is_lt (nat_cmp a.last b.last)) x) rs) → (n : ℕ) → ranges_to n ss ≡ ranges_to n rs
ranges_to-stable rs ss h n = sym (tied n ss) ∙ h (range_to n) ∙ tied n rs
  where
    tie : (n m : ℕ) → (not (is_lt (nat_cmp n m)) && not (is_lt (nat_cmp m n))) ≡ (n == m)
    tie n m = grind (arith, nat_tests)

    tied : (n : ℕ) (rs : List Range) → filter (ties (λ (a b : Range). is_lt (nat_cmp a.last b.last)) (range_to n)) rs ≡ ranges_to n rs
    tied n [] = refl
    tied n (r ∷ rs) = ap (λ b. if b then r ∷ filter (ties (λ (a b : Range). is_lt (nat_cmp a.last b.last)) (range_to n)) rs else filter (ties (λ (a b : Range). is_lt (nat_cmp a.last b.last)) (range_to n)) rs) (tie n r.last) ∙ ap (λ l. if n == r.last then r ∷ l else l) (tied n rs)
