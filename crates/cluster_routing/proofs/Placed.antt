-- Items that are put at their places.
use Rattle.std.specs.Prelude.{nat_eq, nat_lt, slice_set, ◌==◌, ◌-◌, ◌/◌, ◌≢◌, is_ok, IfOk, Result, Ok, Err, filter_map, flat_map}
use Rattle.std.specs.List.{list_all, cons_option}
use Rattle.std.proofs.Common.{◌≡◌, ℕ, zero, suc, ◌+◌, ◌<◌, ◌≤◌, Bool, true, false, ◌&&◌, if◌then◌else◌, List, [], ◌∷◌, ◌++◌, length, map, drop, refl, sym, ap, ◌∙◌, arith, add-one, drop-cons, length-append, append_assoc, append-nil, get_or, Option, Some, None, option_map, Vec, Global, rules}
use Rattle.std.proofs.lemmas.Bool.Decides.{nat_tests}
use Rattle.std.proofs.lemmas.List.{map-set, map-append, length-map}
use Rattle.resp_core.specs.Trees.{Tree, array}
use Rattle.resp_core.specs.View.{view, trees_of, trees_view}
use Rattle.resp_core.specs.declared.value.Value.{Value, Array, the_lemmas}
use Rattle.cluster_routing.specs.Combine.{are_lists_of, every, is_list_of, item_at, items_or_none}
use Rattle.cluster_routing.specs.Lists.{concat, numbers_below}
use Rattle.cluster_routing.specs.SlotsReply.{items}
use Rattle.cluster_routing.proofs.Marks.{below_front}

-- ---- arrays

items-trees_of : (ts : List Tree) → items (trees_of ts) ≡ ts
items-trees_of [] = refl
items-trees_of (t ∷ ts) = ap (λ us. t ∷ us) (items-trees_of ts)

view-Array : (v : Vec Value Global) → view (Array v) ≡ array (trees_view v.items)
view-Array v = search (rules, the_lemmas)

pub array_items : (v : Vec Value Global) → items_or_none (view (Array v)) ≡ map view v.items
array_items v = ap items_or_none (view-Array v) ∙ items-trees_of (map view v.items)

pub array_list : (n : ℕ) (v : Vec Value Global) → is_list_of n (view (Array v)) ≡ (length v.items == n)
array_list n v = ap (is_list_of n) (view-Array v) ∙ ap (λ ts. length ts == n) (items-trees_of (map view v.items)) ∙ ap (λ k. k == n) (length-map v.items view)

pub no_list_left : (ls : List (List ℕ)) → are_lists_of ls [] ≡ nat_eq (length ls) 0
no_list_left [] = grind (arith, nat_tests)
no_list_left (l ∷ ls) = grind (arith, nat_tests)

-- ---- each so-manieth position

pub every_at : (w s : ℕ) (ps : List ℕ) (i : ℕ) → i < length ps → every w s (drop i ps) ≡ (if s == 0 then get_or ps i 0 ∷ every w (w - 1) (drop (i + 1) ps) else every w (s - 1) (drop (i + 1) ps))
every_at w s ps i h = ap (every w s) (drop-cons ps i 0 h ∙ ap (λ k. get_or ps i 0 ∷ drop k ps) (sym (add-one i)))

pub step_taken : (w s t i : ℕ) (ps olds news : List ℕ) → i < length ps → s ≡ 0 → news ≡ olds ++ (get_or ps i 0 / w) ∷ [] → t ≡ w - 1 → olds ++ map (λ p. p / w) (every w s (drop i ps)) ≡ news ++ map (λ p. p / w) (every w t (drop (i + 1) ps))
step_taken w s t i ps olds news h z e d =
    let more : List ℕ = drop (i + 1) ps in
    let k : (s == 0) ≡ true = grind (arith, nat_tests, z) in
    ap (λ ys. olds ++ map (λ p. p / w) ys) (every_at w s ps i h ∙ ap (λ b. if b then get_or ps i 0 ∷ every w (w - 1) more else every w (s - 1) more) k)
    ∙ sym (append_assoc olds ((get_or ps i 0 / w) ∷ []) (map (λ p. p / w) (every w (w - 1) more)))
    ∙ ap (λ ys. ys ++ map (λ p. p / w) (every w (w - 1) more)) (sym e)
    ∙ ap (λ k. news ++ map (λ p. p / w) (every w k more)) (sym d)

pub step_passed : (w s t i : ℕ) (ps olds news : List ℕ) → i < length ps → s ≢ 0 → news ≡ olds → t ≡ s - 1 → olds ++ map (λ p. p / w) (every w s (drop i ps)) ≡ news ++ map (λ p. p / w) (every w t (drop (i + 1) ps))
step_passed w s t i ps olds news h z e d =
    let more : List ℕ = drop (i + 1) ps in
    let k : (s == 0) ≡ false = grind (arith, nat_tests, z) in
    ap (λ ys. olds ++ map (λ p. p / w) ys) (every_at w s ps i h ∙ ap (λ b. if b then get_or ps i 0 ∷ every w (w - 1) more else every w (s - 1) more) k)
    ∙ ap (λ ys. ys ++ map (λ p. p / w) (every w (s - 1) more)) (sym e)
    ∙ ap (λ k. news ++ map (λ p. p / w) (every w k more)) (sym d)

-- ---- a table of places

mapped : {X : Type 0} (g : ℕ → X) (h : ℕ → ℕ) (ns : List ℕ) → map g (map h ns) ≡ map (λ n. g (h n)) ns
mapped g h [] = refl
mapped g h (n ∷ ns) = ap (λ ys. g (h n) ∷ ys) (mapped g h ns)

alike : {X : Type 0} (g h : ℕ → X) (ns : List ℕ) → ((n : ℕ) → g n ≡ h n) → map g ns ≡ map h ns
alike g h [] e = refl
alike g h (n ∷ ns) e = ap (λ x. x ∷ map g ns) (e n) ∙ ap (λ ys. h n ∷ ys) (alike g h ns e)

zero_first : true ≡ (0 == 0)
zero_first = grind (arith, nat_tests)

zero_not : (n : ℕ) → (suc n == 0) ≡ false
zero_not n = grind (arith, nat_tests)

not_zero : (n : ℕ) → false ≡ (0 == suc n)
not_zero n = grind (arith, nat_tests)

suc_same : (n p : ℕ) → (n == p) ≡ (suc n == suc p)
suc_same n p = grind (arith, nat_tests)

pub set_below : {X : Type 0} (g : ℕ → X) (y : X) (n p : ℕ) → p < n → slice_set (map g (numbers_below n)) p y ≡ map (λ m. if m == p then y else g m) (numbers_below n)
set_below g y zero p h = absurd (omega (arith, h))
set_below g y (suc n) zero h =
    ap (λ ns. slice_set (map g ns) 0 y) (below_front n)
    ∙ ap (λ ys. y ∷ ys) (mapped g (λ i. suc i) (numbers_below n) ∙ alike (λ i. g (suc i)) (λ i. if suc i == 0 then y else g (suc i)) (numbers_below n) (λ i. sym (ap (λ b. if b then y else g (suc i)) (zero_not i))) ∙ sym (mapped (λ m. if m == 0 then y else g m) (λ i. suc i) (numbers_below n)))
    ∙ ap (λ b. (if b then y else g 0) ∷ map (λ m. if m == 0 then y else g m) (map (λ i. suc i) (numbers_below n))) zero_first
    ∙ ap (map (λ m. if m == 0 then y else g m)) (sym (below_front n))
set_below g y (suc n) (suc p) h =
    ap (λ ns. slice_set (map g ns) (suc p) y) (below_front n)
    ∙ ap (λ ys. g 0 ∷ slice_set ys p y) (mapped g (λ i. suc i) (numbers_below n))
    ∙ ap (λ ys. g 0 ∷ ys) (
    set_below (λ i. g (suc i)) y n p (omega (arith, h)) ∙ alike (λ i. if i == p then y else g (suc i)) (λ i. if suc i == suc p then y else g (suc i)) (numbers_below n) (λ i. ap (λ b. if b then y else g (suc i)) (suc_same i p))
    ∙ sym (mapped (λ m. if m == suc p then y else g m) (λ i. suc i) (numbers_below n))
    )
    ∙ ap (λ b. (if b then y else g 0) ∷ map (λ m. if m == suc p then y else g m) (map (λ i. suc i) (numbers_below n))) (not_zero p)
    ∙ ap (map (λ m. if m == suc p then y else g m)) (sym (below_front n))

pub below_at : (n : ℕ) (ps : List ℕ) (i : ℕ) → i < length ps → list_all (λ p. nat_lt p n) ps ≡ true → get_or ps i 0 < n
below_at n [] i h e = absurd (omega (arith, h))
below_at n (p ∷ ps) zero h e = first (nat_lt p n) refl e
  where
    first : (b : Bool) → nat_lt p n ≡ b → (b && list_all (λ p. nat_lt p n) ps) ≡ true → p < n
    first true k l = grind (arith, nat_tests, k)
    first false k l = cc
below_at n (p ∷ ps) (suc i) h e = below_at n ps i (omega (arith, h)) (behind (nat_lt p n) e)
  where
    behind : (b : Bool) → (b && list_all (λ p. nat_lt p n) ps) ≡ true → list_all (λ p. nat_lt p n) ps ≡ true
    behind true l = l
    behind false l = cc

behind_front : {X : Type 0} (xs ys : List X) → drop (length xs) (xs ++ ys) ≡ ys
behind_front [] ys = refl
behind_front (x ∷ xs) ys = behind_front xs ys

-- the items that are left, and the table
pub record Filled (places : List ℕ) (all some : List Value) (table : List (Option Value)) : Type 0 where
  pub left : all ≡ some ++ drop (length some) all
  pub placed : map (option_map view) table ≡ map (item_at (drop (length some) places) (map view (drop (length some) all))) (numbers_below (length places))

whole : {places : List ℕ} {all some : List Value} {table : List (Option Value)} (less : List Value) (item : Value) → Filled places all some table → some ≡ less ++ item ∷ [] → all ≡ less ++ item ∷ drop (length some) all
whole {places} {all} {some} less item f e = f.left ∙ ap (λ xs. xs ++ drop (length some) all) e ∙ append_assoc less (item ∷ []) (drop (length some) all)

pub filled_within : {places : List ℕ} {all some : List Value} {table : List (Option Value)} (less : List Value) (item : Value) → Filled places all some table → some ≡ less ++ item ∷ [] → length all ≡ length places → length less < length places
filled_within {places} {all} {some} less item f e l = omega (arith, l, ap length (whole less item f e), length-append less (item ∷ drop (length some) all))

count_below : (n : ℕ) → length (numbers_below n) ≡ n
count_below zero = refl
count_below (suc n) = length-append (numbers_below n) (n ∷ []) ∙ ap (λ k. k + 1) (count_below n) ∙ add-one n

table_len : {places : List ℕ} {all some : List Value} {table : List (Option Value)} → Filled places all some table → length table ≡ length places
table_len {places} {all} {some} {table} f =
    sym (length-map table (option_map view)) ∙ ap length f.placed ∙ length-map (numbers_below (length places)) (item_at (drop (length some) places) (map view (drop (length some) all))) ∙ count_below (length places)

pub filled_place : {places : List ℕ} {all some : List Value} {table : List (Option Value)} (less : List Value) (item : Value) → Filled places all some table → some ≡ less ++ item ∷ [] → length all ≡ length places
    → list_all (λ p. nat_lt p (length places)) places ≡ true → get_or places (length less) 0 < length table
filled_place {places} less item f e l b = omega (arith, table_len f, below_at (length places) places (length less) (filled_within less item f e l) b)

pub filled_more : {places : List ℕ} {all some : List Value} {table : List (Option Value)} (less : List Value) (item : Value) (news : List (Option Value)) → Filled places all some table → some ≡ less ++ item ∷ [] → length all ≡ length places
    → list_all (λ p. nat_lt p (length places)) places ≡ true → news ≡ slice_set table (get_or places (length less) 0) (Some item) → Filled places all less news
filled_more {places} {all} {some} {table} less item news f e l b d =
    let k : ℕ = length less in
    let p : ℕ = get_or places k 0 in
    let long : length some ≡ k + 1 = ap length e ∙ length-append less (item ∷ []) in
    let front : drop k all ≡ item ∷ drop (length some) all = ap (drop k) (whole less item f e) ∙ behind_front less (item ∷ drop (length some) all) in
    let within : k < length places = filled_within less item f e l in
    let cut : drop k places ≡ p ∷ drop (length some) places = drop-cons places k 0 within ∙ ap (λ n. p ∷ drop n places) (sym (long ∙ add-one k)) in
    record {
      left = whole less item f e ∙ ap (λ xs. less ++ xs) (sym front);
      placed =
          ap (map (option_map view)) d
          ∙ map-set (option_map view) table p (Some item)
          ∙ ap (λ ys. slice_set ys p (Some (view item))) f.placed
          ∙ set_below (item_at (drop (length some) places) (map view (drop (length some) all))) (Some (view item)) (length places) p (below_at (length places) places k within b)
          ∙ ap (λ ps. map (item_at ps (view item ∷ map view (drop (length some) all))) (numbers_below (length places))) (sym cut)
          ∙ ap (λ xs. map (item_at (drop k places) (map view xs)) (numbers_below (length places))) (sym front);
    }

no_item : (ps : List ℕ) (n : ℕ) → None ≡ item_at ps [] n
no_item [] n = refl
no_item (p ∷ ps) n = refl

all_dropped : {X : Type 0} (xs : List X) → drop (length xs) xs ≡ []
all_dropped [] = refl
all_dropped (x ∷ xs) = all_dropped xs

pub filled_start : (places : List ℕ) (all : List Value) (table : List (Option Value)) → map (option_map view) table ≡ map (λ _. None) (numbers_below (length places)) → Filled places all all table
filled_start places all table e = record {
  left = sym (ap (λ xs. all ++ xs) (all_dropped all) ∙ append-nil all);
  placed = e ∙ alike (λ _. None) (item_at (drop (length all) places) []) (numbers_below (length places)) (λ n. no_item (drop (length all) places) n) ∙ ap (λ xs. map (item_at (drop (length all) places) (map view xs)) (numbers_below (length places))) (sym (all_dropped all));
}

pub filled_all : {places : List ℕ} {all some : List Value} {table : List (Option Value)} → Filled places all some table → some ≡ [] → map (option_map view) table ≡ map (item_at places (map view all)) (numbers_below (length places))
filled_all {places} {all} f e = f.placed ∙ ap (λ xs. map (item_at (drop (length xs) places) (map view (drop (length xs) all))) (numbers_below (length places))) e

keep : {X Y : Type 0} (f : X → Option Y) (xs : List X) → filter_map f xs ≡ filter_map (λ o. o) (map f xs)
keep f [] = refl
keep f (x ∷ xs) = ap (cons_option (f x)) (keep f xs)

pub kept : {X Y Z : Type 0} (f : X → Option Y) (g : Z → Option Y) (xs : List X) (zs : List Z) → map f xs ≡ map g zs → filter_map f xs ≡ filter_map g zs
kept f g xs zs e = keep f xs ∙ ap (filter_map (λ o. o)) e ∙ sym (keep g zs)

pub appended : {A E : Type 0} (r : Result A E) (old more new : List Value) (ts : List Tree) → new ≡ (if is_ok r then old ++ more else old) → map view more ≡ ts → IfOk r (λ _. map view new ≡ map view old ++ ts)
appended (Ok a) old more new ts e d = ap (map view) e ∙ map-append view old more ∙ ap (λ ys. map view old ++ ys) d
appended (Err a) old more new ts e d = tt

pub all_passed : {X : Type 0} (xs : List X) (i : ℕ) → length xs ≤ i → drop i xs ≡ []
all_passed [] zero h = refl
all_passed [] (suc i) h = refl
all_passed (x ∷ xs) zero h = absurd (omega (arith, h))
all_passed (x ∷ xs) (suc i) h = all_passed xs i (omega (arith, h))

-- ---- as many items as places

pub fits : (b c : Bool) → (b && c) ≡ true → (b ≡ true) × (c ≡ true)
fits true true h = (refl, refl)
fits true false h = cc
fits false c h = cc

pub counted : (n : ℕ) (t : Tree) → is_list_of n t ≡ true → n ≡ length (items_or_none t)
counted n (array ts) h = grind (arith, nat_tests, h)
counted n t h = cc

pub as_many : (ls : List (List ℕ)) (ts : List Tree) → are_lists_of ls ts ≡ true → length (concat ls) ≡ length (flat_map items_or_none ts)
as_many [] [] h = refl
as_many [] (t ∷ ts) h = cc
as_many (l ∷ ls) [] h = cc
as_many (l ∷ ls) (t ∷ ts) h =
    let both = fits (is_list_of (length l) t) (are_lists_of ls ts) h in
    length-append l (concat ls) ∙ ap (λ n. n + length (concat ls)) (counted (length l) t both.0) ∙ ap (λ n. length (items_or_none t) + n) (as_many ls ts both.1)
    ∙ sym (length-append (items_or_none t) (flat_map items_or_none ts))
