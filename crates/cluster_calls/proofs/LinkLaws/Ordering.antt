-- Items taken in an order of their numbers.
use Rattle.std.specs.Prelude.{◌||◌, ◌&&◌, not, nat_eq, nat_lt, filter_map, slice_get, slice_set}
use Rattle.std.specs.List.{AllByRecursion, list_all, cons_option}
use Rattle.std.proofs.Common.{◌≡◌, ℕ, zero, suc, ◌+◌, ◌<◌, ◌≤◌, Bool, true, false, List, [], ◌∷◌, ◌++◌, length, map, drop, get_or, Option, Some, None, option_map, Vec, Global, refl, sym, ap, ◌∙◌, subst, add-one, drop-cons, append_assoc, append-nil, eq-eqb, ltb-true, arith}
use Rattle.std.proofs.lemmas.Bool.{false≢true, and_parts, not-true}
use Rattle.std.proofs.lemmas.List.{drop_all, length-map}
use Rattle.std.proofs.lemmas.Option.{slice_get-map}
use Rattle.cluster_routing.specs.Lists.{among, is_distinct, is_permutation, numbers_below}
use Rattle.cluster_calls.proofs.Lists.{set_other}
use Rattle.cluster_calls.specs.Calls.Parts.{fits_order}
use Rattle.cluster_calls.specs.Calls.Plan.{in_order}
use Rattle.cluster_calls.specs.Links.Taken.{there, there_at}

-- ---- another item at one place

set_length : {X : Type 0} (xs : List X) (n : ℕ) (a : X) → length (slice_set xs n a) ≡ length xs
set_length [] n a = refl
set_length (x ∷ xs) zero a = refl
set_length (x ∷ xs) (suc n) a = ap suc (set_length xs n a)

next_number : (order : List ℕ) (i n : ℕ) → i < length order → n ≡ get_or order i 0 → drop i order ≡ n ∷ drop (i + 1) order
next_number order i n lt at = rw add-one (drop-cons order i 0 lt ∙ ap (λ k. k ∷ drop (suc i) order) (sym at))

module _ {T : Type 0} where
  other_by : (left : List (Option T)) (n m : ℕ) (ms : List ℕ) (b : Bool) → nat_eq n m ≡ b → (b || among nat_eq n ms) ≡ false
      → (among nat_eq n ms ≡ false → filter_map (there_at (slice_set left n None)) ms ≡ filter_map (there_at left) ms)
      → filter_map (there_at (slice_set left n None)) (m ∷ ms) ≡ filter_map (there_at left) (m ∷ ms)
  other_by left n m ms true f g h = absurd (false≢true (sym g))
  other_by left n m ms false f g h =
      let same : slice_get (slice_set left n None) m ≡ slice_get left m = set_other left n m None (λ k. false≢true (sym f ∙ eq-eqb n m k)) in
      ap (λ o. cons_option (there o) (filter_map (there_at (slice_set left n None)) ms)) same ∙ ap (λ r. cons_option (there_at left m) r) (h g)

  -- what is taken at one place stays at every other
  others_stay : (left : List (Option T)) (n : ℕ) (ms : List ℕ) → among nat_eq n ms ≡ false → filter_map (there_at (slice_set left n None)) ms ≡ filter_map (there_at left) ms
  others_stay left n [] e = refl
  others_stay left n (m ∷ ms) e = other_by left n m ms (nat_eq n m) refl e (λ g. others_stay left n ms g)

  -- ---- the items so far

  pub record Taking (start : List (Option T)) (order : List ℕ) (i : ℕ) (left : List (Option T)) (all : List T) : Type 0 where
    pub len : length left ≡ length start
    pub within : list_all (λ n. nat_lt n (length start)) (drop i order) ≡ true
    pub distinct : is_distinct nat_eq (drop i order) ≡ true
    pub told : all ++ filter_map (there_at left) (drop i order) ≡ filter_map (there_at start) order

  pub taking_start : (start : List (Option T)) (order : List ℕ) → list_all (λ n. nat_lt n (length start)) order ≡ true → is_distinct nat_eq order ≡ true → Taking start order 0 start []
  taking_start start order w d = record { len = refl; within = w; distinct = d; told = refl }

  pub taking_within : {start : List (Option T)} {order : List ℕ} {i : ℕ} {left : List (Option T)} {all : List T} (n : ℕ) → Taking start order i left all → i < length order → n ≡ get_or order i 0 → n < length left
  taking_within {start} {order} {i} {left} {all} n t lt at =
      let w = rw (next_number order i n lt at) at t.within in
      rw (t.len) (ltb-true n (length start) (and_parts (nat_lt n (length start)) (list_all (λ k. nat_lt k (length start)) (drop (i + 1) order)) w).0)

  pub taking_more : {start : List (Option T)} {order : List ℕ} {i : ℕ} {left : List (Option T)} {all : List T} (n : ℕ) (old new : Option T) (more : List T) → Taking start order i left all
      → i < length order → n ≡ get_or order i 0 → slice_get left n ≡ Some old → new ≡ None → more ≡ all ++ cons_option old [] → Taking start order (i + 1) (slice_set left n new) more
  taking_more {start} {order} {i} {left} {all} n old new more t lt at there' gone m =
      let l : slice_set left n new ≡ slice_set left n None = ap (slice_set left n) gone in
      let next = next_number order i n lt at in
      let w = and_parts (nat_lt n (length start)) (list_all (λ k. nat_lt k (length start)) (drop (i + 1) order)) (rw next at t.within) in
      let d = and_parts (not (among nat_eq n (drop (i + 1) order))) (is_distinct nat_eq (drop (i + 1) order)) (rw next at t.distinct) in
      let stay = others_stay left n (drop (i + 1) order) (not-true (among nat_eq n (drop (i + 1) order)) d.0) in
      let told : all ++ cons_option (there_at left n) (filter_map (there_at left) (drop (i + 1) order)) ≡ filter_map (there_at start) order = rw next at t.told in
      record {
        len = rw l (set_length left n None ∙ t.len);
        within = w.1;
        distinct = d.1;
        told =
            ap (λ xs. xs ++ filter_map (there_at (slice_set left n new)) (drop (i + 1) order)) m
            ∙ ap (λ xs. (all ++ cons_option old []) ++ filter_map (there_at xs) (drop (i + 1) order)) l
            ∙ ap (λ r. (all ++ cons_option old []) ++ r) stay
            ∙ append_assoc all (cons_option old []) (filter_map (there_at left) (drop (i + 1) order))
            ∙ ap (λ r. all ++ r) (one_more old (filter_map (there_at left) (drop (i + 1) order)))
            ∙ ap (λ o. all ++ cons_option (there o) (filter_map (there_at left) (drop (i + 1) order))) (sym there')
            ∙ told;
      }
    where
      one_more : (o : Option T) (rest : List T) → cons_option o [] ++ rest ≡ cons_option o rest
      one_more None rest = refl
      one_more (Some x) rest = refl

  pub with_one : (all : Vec T Global) {more pushed : Vec T Global} {item : T} {old : Option T} → more ≡ pushed → pushed.items ≡ all.items ++ item ∷ [] → old ≡ Some item → more.items ≡ all.items ++ cons_option old []
  with_one all e f g = ap (λ (v : Vec T Global). v.items) e ∙ f ∙ ap (λ o. all.items ++ cons_option o []) (sym g)

  pub with_none : (all : Vec T Global) {more : Vec T Global} {old : Option T} → more ≡ all → old ≡ None → more.items ≡ all.items ++ cons_option old []
  with_none all e g = ap (λ (v : Vec T Global). v.items) e ∙ sym (append-nil all.items) ∙ ap (λ o. all.items ++ cons_option o []) (sym g)

  pub taking_done : {start : List (Option T)} {order : List ℕ} {i : ℕ} {left : List (Option T)} {all : List T} → Taking start order i left all → length order ≤ i → all ≡ filter_map (there_at start) order
  taking_done {start} {order} {i} {left} {all} t e =
      let none : drop i order ≡ [] = drop_all i order e in
      sym (append-nil all) ∙ ap (λ ns. all ++ filter_map (there_at left) ns) (sym none) ∙ t.told

-- ---- items that are all there

get_some : {T : Type 0} (items : List T) (n : ℕ) → there_at (map (λ item. Some item) items) n ≡ slice_get items n
get_some [] n = refl
get_some (x ∷ items) zero = refl
get_some (x ∷ items) (suc n) = get_some items n

pub all_there : {T : Type 0} (items : List T) (order : List ℕ) → filter_map (there_at (map (λ item. Some item) items)) order ≡ filter_map (slice_get items) order
all_there items [] = refl
all_there items (n ∷ order) = ap (λ o. cons_option o (filter_map (there_at (map (λ item. Some item) items)) order)) (get_some items n) ∙ ap (λ r. cons_option (slice_get items n) r) (all_there items order)

-- ---- the order

pub order_within : {T : Type 0} (items : List T) (order : List ℕ) → is_permutation (length items) order ≡ true → list_all (λ n. nat_lt n (length (map (λ item. Some item) items))) order ≡ true
order_within items order e =
    let n = length items in
    rw length-map (and_parts (list_all (λ i. nat_lt i n) order) (list_all (λ i. among nat_eq i order) (numbers_below n)) (and_parts (list_all (λ i. nat_lt i n) order && list_all (λ i. among nat_eq i order) (numbers_below n)) (is_distinct nat_eq order) e).0).0

pub order_distinct : (n : ℕ) (order : List ℕ) → is_permutation n order ≡ true → is_distinct nat_eq order ≡ true
order_distinct n order e = (and_parts (list_all (λ i. nat_lt i n) order && list_all (λ i. among nat_eq i order) (numbers_below n)) (is_distinct nat_eq order) e).1

-- ---- what holds of every item

all_at : {T : Type 0} (P : T → Type 0) (items : List T) (n : ℕ) (item : T) → AllByRecursion P items → slice_get items n ≡ Some item → P item
all_at P [] n item h e = cc
all_at P (x ∷ items) zero item h e = let same : x ≡ item = cc in subst P same h.0
all_at P (x ∷ items) (suc n) item h e = all_at P items n item h.1 e

-- it holds of every item in the order
all_ordered : {T : Type 0} (P : T → Type 0) (items : List T) (order : List ℕ) → AllByRecursion P items → AllByRecursion P (filter_map (slice_get items) order)
all_ordered P items [] h = tt
all_ordered {T} P items (n ∷ order) h = by (slice_get items n) refl (all_ordered P items order h)
  where
    by : (o : Option T) → slice_get items n ≡ o → AllByRecursion P (filter_map (slice_get items) order) → AllByRecursion P (cons_option o (filter_map (slice_get items) order))
    by None e r = r
    by (Some item) e r = (all_at P items n item h e, r)

pub holds_in_order : {T : Type 0} (P : T → Type 0) (order : Option (List ℕ)) (items : List T) → AllByRecursion P items → AllByRecursion P (in_order order items)
holds_in_order P None items h = h
holds_in_order P (Some order) items h = all_ordered P items order h

-- ---- what is made of every item

module _ {A B : Type 0} (f : A → B) where
  made_one : (o : Option A) (items : List A) → map f (cons_option o items) ≡ cons_option (option_map f o) (map f items)
  made_one None items = refl
  made_one (Some a) items = refl

  made_ordered : (items : List A) (order : List ℕ) → map f (filter_map (slice_get items) order) ≡ filter_map (slice_get (map f items)) order
  made_ordered items [] = refl
  made_ordered items (n ∷ order) =
      made_one (slice_get items n) (filter_map (slice_get items) order)
      ∙ ap (λ o. cons_option o (map f (filter_map (slice_get items) order))) (sym (slice_get-map f items n))
      ∙ ap (λ r. cons_option (slice_get (map f items) n) r) (made_ordered items order)

  -- it is in the order of the items
  pub made_in_order : (order : Option (List ℕ)) (items : List A) → map f (in_order order items) ≡ in_order order (map f items)
  made_in_order None items = refl
  made_in_order (Some order) items = made_ordered items order

-- ---- the order of one item

only_number : (order : List ℕ) → is_permutation 1 order ≡ true → order ≡ 0 ∷ []
only_number [] e = absurd (false≢true e)
only_number (n ∷ []) e =
    let small = and_parts (nat_lt n 1) true (order_within {T = ℕ} (0 ∷ []) (n ∷ []) e) in
    let first : n ≡ 0 = let lt : n < 1 = ltb-true n 1 small.0 in omega (arith, lt) in
    ap (λ k. k ∷ []) first
only_number (n ∷ m ∷ order) e =
    let all = and_parts (nat_lt n 1) (list_all (λ i. nat_lt i 1) (m ∷ order)) (order_within {T = ℕ} (0 ∷ []) (n ∷ m ∷ order) e) in
    let small = and_parts (nat_lt m 1) (list_all (λ i. nat_lt i 1) order) all.1 in
    let first : n ≡ 0 = let lt : n < 1 = ltb-true n 1 all.0 in omega (arith, lt) in
    let second : m ≡ 0 = let lt : m < 1 = ltb-true m 1 small.0 in omega (arith, lt) in
    absurd (false≢true (rw (first, second) at (order_distinct 1 (n ∷ m ∷ order) e)))

pub one_in_order : {T : Type 0} (order : Option (List ℕ)) (item : T) → fits_order order 1 ≡ true → in_order order (item ∷ []) ≡ item ∷ []
one_in_order None item e = refl
one_in_order (Some order) item e = ap (filter_map (slice_get (item ∷ []))) (only_number order e)
