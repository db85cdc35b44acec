-- Parts in another order are the same parts.
use Rattle.std.proofs.Common.{◌≡◌, ℕ, zero, suc, ◌<◌, Bool, true, false, ◌||◌, ◌&&◌, not, nat_eq, nat_lt, List, [], ◌∷◌, ◌++◌, map, filter_map, length, Option, Some, None, refl, sym, ap, ◌∙◌, subst, eqb-true, eq-eqb, ltb-true, arith}
use Rattle.std.specs.Prelude.{slice_get}
use Rattle.std.specs.List.{AllByRecursion, list_all, cons_option}
use Rattle.std.proofs.lemmas.Bool.{false≢true, and_parts, not-true}
use Rattle.cluster_routing.specs.Lists.{among, IsDistinct, is_distinct, is_permutation, numbers_below}
use Rattle.cluster_routing.specs.Split.{Split}
use Rattle.cluster_routing.specs.Parts.{Tuple, tuple_slot}
use Rattle.cluster_calls.specs.Calls.Plan.{Dispatch}
use Rattle.cluster_calls.specs.Calls.Replies.{args_slot}
use Rattle.cluster_calls.proofs.ServerLaws.SplitCall.{IsDispatchOf}
use Rattle.cluster_calls.proofs.ServerLaws.PartCall.{Sends}

abbrev slots_of : List Dispatch → List ℕ
slots_of ds = map (λ (d : Dispatch). (args_slot d.args)) ds

abbrev picked : List Dispatch → List ℕ → List Dispatch
picked ds order = filter_map (slice_get ds) order

all-get : (P : Dispatch → Type 0) (ds : List Dispatch) (i : ℕ) (d : Dispatch) → AllByRecursion P ds → slice_get ds i ≡ Some d → P d
all-get P [] i d h e = cc
all-get P (x ∷ ds) zero d h e = let n : x ≡ d = cc in subst P n h.0
all-get P (x ∷ ds) (suc i) d h e = all-get P ds i d h.1 e

all-picked : (P : Dispatch → Type 0) (ds : List Dispatch) (order : List ℕ) → AllByRecursion P ds → AllByRecursion P (picked ds order)
all-picked P ds [] h = tt
all-picked P ds (i ∷ order) h = by (slice_get ds i) refl (all-picked P ds order h)
  where
    by : (o : Option Dispatch) → slice_get ds i ≡ o → AllByRecursion P (picked ds order) → AllByRecursion P (cons_option o (picked ds order))
    by None e r = r
    by (Some d) e r = (all-get P ds i d h e, r)

get-among : (ds : List Dispatch) (i : ℕ) (d : Dispatch) → slice_get ds i ≡ Some d → among nat_eq (args_slot d.args) (slots_of ds) ≡ true
get-among [] i d e = cc
get-among (x ∷ ds) zero d e = let n : x ≡ d = cc in ap (λ b. b || among nat_eq (args_slot d.args) (slots_of ds)) (eq-eqb (args_slot d.args) (args_slot x.args) (ap (λ (y : Dispatch). (args_slot y.args)) (sym n)))
get-among (x ∷ ds) (suc i) d e = by (nat_eq (args_slot d.args) (args_slot x.args)) (get-among ds i d e)
  where
    by : (b : Bool) {c : Bool} → c ≡ true → (b || c) ≡ true
    by true h = refl
    by false h = h

-- a slot stands at one place
one_place : (ds : List Dispatch) → IsDistinct nat_eq (slots_of ds) → (i j : ℕ) (d e : Dispatch) → slice_get ds i ≡ Some d → slice_get ds j ≡ Some e → (args_slot d.args) ≡ (args_slot e.args) → i ≡ j
one_place [] h i j d e f g s = cc
one_place (x ∷ ds) h zero zero d e f g s = refl
one_place (x ∷ ds) h zero (suc j) d e f g s =
    let n : x ≡ d = cc in
    absurd (false≢true (sym h.0 ∙ ap (λ k. among nat_eq k (slots_of ds)) (ap (λ (y : Dispatch). (args_slot y.args)) n ∙ s) ∙ get-among ds j e g))
one_place (x ∷ ds) h (suc i) zero d e f g s =
    let n : x ≡ e = cc in
    absurd (false≢true (sym h.0 ∙ ap (λ k. among nat_eq k (slots_of ds)) (ap (λ (y : Dispatch). (args_slot y.args)) n ∙ sym s) ∙ get-among ds i d f))
one_place (x ∷ ds) h (suc i) (suc j) d e f g s = ap suc (one_place ds h.1 i j d e f g s)

not_picked : (ds : List Dispatch) → IsDistinct nat_eq (slots_of ds) → (i : ℕ) (d : Dispatch) → slice_get ds i ≡ Some d → (order : List ℕ) → among nat_eq i order ≡ false → among nat_eq (args_slot d.args) (slots_of (picked ds order)) ≡ false
not_picked ds h i d e [] n = refl
not_picked ds h i d e (j ∷ order) n = by (nat_eq i j) refl n (slice_get ds j) refl (λ m. not_picked ds h i d e order m)
  where
    at : (s : Dispatch) → slice_get ds j ≡ Some s → nat_eq i j ≡ false → (b : Bool) → nat_eq (args_slot d.args) (args_slot s.args) ≡ b → among nat_eq (args_slot d.args) (slots_of (picked ds order)) ≡ false → (b || among nat_eq (args_slot d.args) (slots_of (picked ds order))) ≡ false
    at s g m true f r = absurd (false≢true (sym m ∙ eq-eqb i j (one_place ds h i j d s e g (eqb-true (args_slot d.args) (args_slot s.args) f))))
    at s g m false f r = r

    by : (b : Bool) → nat_eq i j ≡ b → (b || among nat_eq i order) ≡ false → (o : Option Dispatch) → slice_get ds j ≡ o → (among nat_eq i order ≡ false → among nat_eq (args_slot d.args) (slots_of (picked ds order)) ≡ false)
        → among nat_eq (args_slot d.args) (slots_of (cons_option o (picked ds order))) ≡ false
    by true m n o g ih = absurd (false≢true (sym n))
    by false m n None g ih = ih n
    by false m n (Some s) g ih = at s g m (nat_eq (args_slot d.args) (args_slot s.args)) refl (ih n)

distinct-picked : (ds : List Dispatch) → IsDistinct nat_eq (slots_of ds) → (order : List ℕ) → is_distinct nat_eq order ≡ true → IsDistinct nat_eq (slots_of (picked ds order))
distinct-picked ds h [] d = tt
distinct-picked ds h (i ∷ order) d = let p = and_parts (not (among nat_eq i order)) (is_distinct nat_eq order) d in by (slice_get ds i) refl (not-true (among nat_eq i order) p.0) (distinct-picked ds h order p.1)
  where
    by : (o : Option Dispatch) → slice_get ds i ≡ o → among nat_eq i order ≡ false → IsDistinct nat_eq (slots_of (picked ds order)) → IsDistinct nat_eq (slots_of (cons_option o (picked ds order)))
    by None e n r = r
    by (Some s) e n r = (not_picked ds h i s e order n, r)

-- where a slot stands
place_of : (s : ℕ) (ds : List Dispatch) → among nat_eq s (slots_of ds) ≡ true → (i : ℕ) × (d : Dispatch) × (i < length ds) × (slice_get ds i ≡ Some d) × (nat_eq s (args_slot d.args) ≡ true)
place_of s [] e = absurd (false≢true e)
place_of s (x ∷ ds) e = by (nat_eq s (args_slot x.args)) refl e (λ f. place_of s ds f)
  where
    by : (b : Bool) → nat_eq s (args_slot x.args) ≡ b → (b || among nat_eq s (slots_of ds)) ≡ true → (among nat_eq s (slots_of ds) ≡ true → (i : ℕ) × (d : Dispatch) × (i < length ds) × (slice_get ds i ≡ Some d) × (nat_eq s (args_slot d.args) ≡ true))
        → (i : ℕ) × (d : Dispatch) × (i < suc (length ds)) × (slice_get (x ∷ ds) i ≡ Some d) × (nat_eq s (args_slot d.args) ≡ true)
    by true f e ih = (zero, x, omega arith, refl, f)
    by false f e ih = let r = ih e in let l = r.2 in (suc r.0, r.1, omega arith, r.3, r.4)

list_all-append : (q : ℕ → Bool) (xs : List ℕ) (y : ℕ) → list_all q (xs ++ y ∷ []) ≡ true → (list_all q xs ≡ true) × (q y ≡ true)
list_all-append q [] y e = (refl, (and_parts (q y) true e).0)
list_all-append q (x ∷ xs) y e =
    let p = and_parts (q x) (list_all q (xs ++ y ∷ [])) e in
    let r = list_all-append q xs y p.1 in
    (ap (λ b. b && list_all q xs) p.0 ∙ r.0, r.1)

each_below : (q : ℕ → Bool) (n i : ℕ) → list_all q (numbers_below n) ≡ true → i < n → q i ≡ true
each_below q zero i e l = absurd (omega arith)
each_below q (suc n) i e l = by (nat_eq i n) refl (list_all-append q (numbers_below n) n e) (λ h m. each_below q n i h m)
  where
    by : (b : Bool) → nat_eq i n ≡ b → (list_all q (numbers_below n) ≡ true) × (q n ≡ true) → (list_all q (numbers_below n) ≡ true → i < n → q i ≡ true) → q i ≡ true
    by true f p ih = ap q (eqb-true i n f) ∙ p.1
    by false f p ih = let ne : i ≡ n → ⊥ = λ g. false≢true (sym f ∙ eq-eqb i n g) in ih p.0 (omega arith)

picked-among : (s : ℕ) (ds : List Dispatch) (i : ℕ) (d : Dispatch) → slice_get ds i ≡ Some d → nat_eq s (args_slot d.args) ≡ true → (order : List ℕ) → among nat_eq i order ≡ true → among nat_eq s (slots_of (picked ds order)) ≡ true
picked-among s ds i d e f [] a = absurd (false≢true a)
picked-among s ds i d e f (j ∷ order) a = by (nat_eq i j) refl a (slice_get ds j) refl (λ b. picked-among s ds i d e f order b)
  where
    or_right : (b : Bool) {c : Bool} → c ≡ true → (b || c) ≡ true
    or_right true h = refl
    or_right false h = h

    by : (b : Bool) → nat_eq i j ≡ b → (b || among nat_eq i order) ≡ true → (o : Option Dispatch) → slice_get ds j ≡ o → (among nat_eq i order ≡ true → among nat_eq s (slots_of (picked ds order)) ≡ true)
        → among nat_eq s (slots_of (cons_option o (picked ds order))) ≡ true
    by true g a None h ih = let k : slice_get ds j ≡ Some d = ap (slice_get ds) (sym (eqb-true i j g)) ∙ e in cc
    by true g a (Some x) h ih =
        let k : Some x ≡ Some d = sym h ∙ ap (slice_get ds) (sym (eqb-true i j g)) ∙ e in
        let n : x ≡ d = cc in
        ap (λ (y : Dispatch). nat_eq s (args_slot y.args) || among nat_eq s (slots_of (picked ds order))) n ∙ ap (λ b. b || among nat_eq s (slots_of (picked ds order))) f
    by false g a None h ih = ih a
    by false g a (Some x) h ih = or_right (nat_eq s (args_slot x.args)) (ih a)

-- the tests of a permutation
tests : (n : ℕ) (order : List ℕ) → is_permutation n order ≡ true → (list_all (λ i. nat_lt i n) order ≡ true) × (list_all (λ i. among nat_eq i order) (numbers_below n) ≡ true) × (is_distinct nat_eq order ≡ true)
tests n order e =
    let p = and_parts (list_all (λ i. nat_lt i n) order && list_all (λ i. among nat_eq i order) (numbers_below n)) (is_distinct nat_eq order) e in
    let q = and_parts (list_all (λ i. nat_lt i n) order) (list_all (λ i. among nat_eq i order) (numbers_below n)) p.0 in
    (q.0, q.1, p.1)

only_zero : (order : List ℕ) → is_permutation 1 order ≡ true → order ≡ 0 ∷ []
only_zero [] e = absurd (false≢true e)
only_zero (i ∷ []) e = let l = ltb-true i 1 (and_parts (nat_lt i 1) true (tests 1 (i ∷ []) e).0).0 in let z : i ≡ 0 = omega arith in ap (λ n. n ∷ []) z
only_zero (i ∷ j ∷ order) e =
    let t = tests 1 (i ∷ j ∷ order) e in
    let p = and_parts (nat_lt i 1) (list_all (λ k. nat_lt k 1) (j ∷ order)) t.0 in
    let q = and_parts (nat_lt j 1) (list_all (λ k. nat_lt k 1) order) p.1 in
    let a = ltb-true i 1 p.0 in let b = ltb-true j 1 q.0 in
    let same : i ≡ j = omega arith in
    let d = not-true (among nat_eq i (j ∷ order)) (and_parts (not (among nat_eq i (j ∷ order))) (is_distinct nat_eq (j ∷ order)) t.2).0 in
    absurd (false≢true (sym d ∙ ap (λ c. c || among nat_eq i order) (eq-eqb i j same)))

pub sends_ordered : (args : List (List ℕ)) (ds : List Dispatch) (order : List ℕ) (o : Option Split) → is_permutation (length ds) order ≡ true → Sends args ds o → Sends args (picked ds order) o
sends_ordered args ds order None p s =
    let one : length ds ≡ 1 = ap length s.1 in
    let zero_only : order ≡ 0 ∷ [] = only_zero order (subst (λ n. is_permutation n order ≡ true) one p) in
    (s.0, ap (λ q. picked ds q) zero_only ∙ ap (λ q. picked q (0 ∷ [])) s.1, s.2)
sends_ordered args ds order (Some split) p s =
    let t = tests (length ds) order p in
    record {
      each = all-picked (IsDispatchOf split) ds order s.each;
      distinct = distinct-picked ds s.distinct order t.2;
      whole = walk t.1 split.tuples s.whole;
    }
  where
    walk : list_all (λ i. among nat_eq i order) (numbers_below (length ds)) ≡ true → (ts : List Tuple) → AllByRecursion (λ t. among nat_eq (tuple_slot t) (slots_of ds) ≡ true) ts → AllByRecursion (λ t. among nat_eq (tuple_slot t) (slots_of (picked ds order)) ≡ true) ts
    walk every [] h = tt
    walk every (t ∷ ts) h =
        let r = place_of (tuple_slot t) ds h.0 in
        (picked-among (tuple_slot t) ds r.0 r.1 r.3 r.4 order (each_below (λ i. among nat_eq i order) (length ds) r.0 every r.2), walk every ts h.1)
