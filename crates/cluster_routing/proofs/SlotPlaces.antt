-- The places of the parts are those of all keys, each once, and the items that come for them are those that are drawn.
use Rattle.std.specs.Prelude.{nat_eq, nat_lt, slice_get, filter_map, flat_map}
use Rattle.std.specs.List.{list_all, cons_option}
use Rattle.std.proofs.Common.{◌≡◌, ℕ, zero, suc, ◌+◌, ◌<◌, Bool, true, false, not, ◌&&◌, ◌||◌, if◌then◌else◌, List, [], ◌∷◌, ◌++◌, length, map, refl, sym, ap, ◌∙◌, arith, length-append, get_or, Option, Some, None}
use Rattle.std.proofs.lemmas.Bool.{eqb-true}
use Rattle.std.proofs.lemmas.Bool.Decides.{nat_tests}
use Rattle.std.proofs.lemmas.List.Folds.{list_all-append, list_any-append}
use Rattle.std.proofs.lemmas.Option.{slice_get_within, slice_get-get_or}
use Rattle.resp_core.specs.Trees.{Tree}
use Rattle.cluster_routing.specs.Combine.{are_lists_of, by_place, is_list_of, item_at, items_for, items_or_none, part_replies}
use Rattle.cluster_routing.specs.Lists.{among, concat, draw, is_distinct, is_permutation, numbers_below}
use Rattle.cluster_routing.specs.Parts.{places_from}
use Rattle.cluster_routing.proofs.Distinct.{nat_tells}
use Rattle.cluster_routing.proofs.Drawn.{drawn, spread}
use Rattle.cluster_routing.proofs.Marks.{below_front}
use Rattle.cluster_routing.proofs.Placed.{counted, fits}

-- ---- the places of one slot

differs : (m n : ℕ) → m < n → nat_eq m n ≡ false
differs m n h = grind (arith, nat_tests, h)

none_plus : (n : ℕ) → n + 0 ≡ n
none_plus n = omega arith

plus_none : (n : ℕ) → 0 + n ≡ n
plus_none n = omega arith

moved : (n i : ℕ) → n + suc i ≡ suc n + i
moved n i = omega arith

beneath_by : (b : Bool) (m n : ℕ) (ps : List ℕ) → m < n → among nat_eq m ps ≡ false → among nat_eq m (if b then n ∷ ps else ps) ≡ false
beneath_by true m n ps h later = ap (λ c. c || among nat_eq m ps) (differs m n h) ∙ later
beneath_by false m n ps h later = later

-- no number below the first place stands among the places
beneath : (s m n : ℕ) (ks : List ℕ) → m < n → among nat_eq m (places_from s n ks) ≡ false
beneath s m n [] h = refl
beneath s m n (k ∷ ks) h = beneath_by (nat_eq s k) m n (places_from s (suc n) ks) h (beneath s m (suc n) ks (omega (arith, h)))

here : (b : Bool) (n : ℕ) (ps : List ℕ) → among nat_eq n ps ≡ false → among nat_eq n (if b then n ∷ ps else ps) ≡ b
here true n ps h = let e : nat_eq n n ≡ true = grind (arith, nat_tests) in ap (λ c. c || among nat_eq n ps) e
here false n ps h = h

there : (b : Bool) (m n : ℕ) (ps : List ℕ) → n < m → among nat_eq m (if b then n ∷ ps else ps) ≡ among nat_eq m ps
there true m n ps h = let e : nat_eq m n ≡ false = grind (arith, nat_tests, h) in ap (λ c. c || among nat_eq m ps) e
there false m n ps h = refl

pub some_same : {x y : ℕ} → Some x ≡ Some y → x ≡ y
some_same h = cc

-- a key's place is among the places of its slot alone
among_places : (s n i k : ℕ) (ks : List ℕ) → slice_get ks i ≡ Some k → among nat_eq (n + i) (places_from s n ks) ≡ nat_eq s k
among_places s n i k [] h = cc
among_places s n zero k (x ∷ ks) h =
    ap (λ m. among nat_eq m (places_from s n (x ∷ ks))) (none_plus n)
    ∙ here (nat_eq s x) n (places_from s (suc n) ks) (beneath s n (suc n) ks (omega arith))
    ∙ ap (nat_eq s) (some_same h)
among_places s n (suc i) k (x ∷ ks) h =
    there (nat_eq s x) (n + suc i) n (places_from s (suc n) ks) (omega arith)
    ∙ ap (λ m. among nat_eq m (places_from s (suc n) ks)) (moved n i)
    ∙ among_places s (suc n) i k ks h

all_by : (b : Bool) (p : ℕ → Bool) (n : ℕ) (ps : List ℕ) → (b ≡ true → p n ≡ true) → list_all p ps ≡ true → list_all p (if b then n ∷ ps else ps) ≡ true
all_by true p n ps h later = ap (λ c. c && list_all p ps) (h refl) ∙ later
all_by false p n ps h later = later

-- what holds of each place that has the slot holds of its places
places_all : (p : ℕ → Bool) (s n : ℕ) (ks : List ℕ) → ((i : ℕ) → slice_get ks i ≡ Some s → p (n + i) ≡ true) → list_all p (places_from s n ks) ≡ true
places_all p s n [] h = refl
places_all p s n (k ∷ ks) h =
    all_by (nat_eq s k) p n (places_from s (suc n) ks) (λ e. ap p (sym (none_plus n)) ∙ h 0 (ap (λ x. Some x) (sym (eqb-true s k e))))
    (places_all p s (suc n) ks (λ i g. ap p (sym (moved n i)) ∙ h (suc i) g))

distinct_by : (b : Bool) (n : ℕ) (ps : List ℕ) → among nat_eq n ps ≡ false → is_distinct nat_eq ps ≡ true → is_distinct nat_eq (if b then n ∷ ps else ps) ≡ true
distinct_by true n ps h later = ap (λ c. not c && is_distinct nat_eq ps) h ∙ later
distinct_by false n ps h later = later

distinct_places : (s n : ℕ) (ks : List ℕ) → is_distinct nat_eq (places_from s n ks) ≡ true
distinct_places s n [] = refl
distinct_places s n (k ∷ ks) = distinct_by (nat_eq s k) n (places_from s (suc n) ks) (beneath s n (suc n) ks (omega arith)) (distinct_places s (suc n) ks)

-- ---- the places of several slots

abbrev pub places_of : ℕ → List ℕ → List ℕ → List (List ℕ)
places_of n ks slots = map (λ s. places_from s n ks) slots

abbrev pub all_places : List ℕ → List ℕ → List ℕ
all_places ks slots = concat (places_of 0 ks slots)

all_append : (p : ℕ → Bool) (xs ys : List ℕ) → list_all p xs ≡ true → list_all p ys ≡ true → list_all p (xs ++ ys) ≡ true
all_append p xs ys h k = list_all-append p xs ys ∙ ap (λ c. c && list_all p ys) h ∙ k

among_one : (s i k : ℕ) (ks : List ℕ) → slice_get ks i ≡ Some k → among nat_eq i (places_from s 0 ks) ≡ nat_eq s k
among_one s i k ks h = ap (λ m. among nat_eq m (places_from s 0 ks)) (sym (plus_none i)) ∙ among_places s 0 i k ks h

among_all : (ks slots : List ℕ) (i k : ℕ) → slice_get ks i ≡ Some k → among nat_eq i (all_places ks slots) ≡ among nat_eq k slots
among_all ks [] i k h = refl
among_all ks (s ∷ slots) i k h =
    list_any-append (λ x. nat_eq i x) (places_from s 0 ks) (all_places ks slots) ∙ ap (λ b. b || among nat_eq i (all_places ks slots)) (among_one s i k ks h ∙ nat_tells.turned s k)
    ∙ ap (λ b. nat_eq k s || b) (among_all ks slots i k h)

within : (ks : List ℕ) (i s : ℕ) → slice_get ks i ≡ Some s → nat_lt i (length ks) ≡ true
within ks i s h = grind (arith, nat_tests, slice_get_within ks i s h)

all_below : (ks slots : List ℕ) → list_all (λ p. nat_lt p (length ks)) (all_places ks slots) ≡ true
all_below ks [] = refl
all_below ks (s ∷ slots) =
    all_append (λ p. nat_lt p (length ks)) (places_from s 0 ks) (all_places ks slots) (places_all (λ p. nat_lt p (length ks)) s 0 ks (λ i g. ap (λ m. nat_lt m (length ks)) (plus_none i) ∙ within ks i s g)) (all_below ks slots)

pub both : (b c : Bool) → (b && c) ≡ true → (b ≡ true) × (c ≡ true)
both true true h = (refl, refl)
both true false h = cc
both false c h = cc

negated : (b : Bool) → not b ≡ true → b ≡ false
negated true h = cc
negated false h = refl

neither : (a b : Bool) → not a ≡ true → not b ≡ true → not (a || b) ≡ true
neither true b h k = cc
neither false b h k = k

distinct_append : (xs ys : List ℕ) → is_distinct nat_eq xs ≡ true → is_distinct nat_eq ys ≡ true → list_all (λ x. not (among nat_eq x ys)) xs ≡ true → is_distinct nat_eq (xs ++ ys) ≡ true
distinct_append [] ys h k a = k
distinct_append (x ∷ xs) ys h k a =
    let own = both (not (among nat_eq x xs)) (is_distinct nat_eq xs) h in
    let apart = both (not (among nat_eq x ys)) (list_all (λ x. not (among nat_eq x ys)) xs) a in
    ap (λ c. c && is_distinct nat_eq (xs ++ ys)) (ap not (list_any-append (λ y. nat_eq x y) xs ys) ∙ neither (among nat_eq x xs) (among nat_eq x ys) own.0 apart.0)
    ∙ distinct_append xs ys own.1 k apart.1

distinct_all : (ks slots : List ℕ) → is_distinct nat_eq slots ≡ true → is_distinct nat_eq (all_places ks slots) ≡ true
distinct_all ks [] h = refl
distinct_all ks (s ∷ slots) h =
    let once = both (not (among nat_eq s slots)) (is_distinct nat_eq slots) h in
    let later : List ℕ = all_places ks slots in
    distinct_append (places_from s 0 ks) later (distinct_places s 0 ks) (distinct_all ks slots once.1) (
    places_all (λ p. not (among nat_eq p later)) s 0 ks (λ i g. ap (λ m. not (among nat_eq m later)) (plus_none i) ∙ ap not (among_all ks slots i s g) ∙ once.0)
    )

-- each key has one of the slots
abbrev pub Covers : List ℕ → List ℕ → Type 0
Covers slots ks = (i k : ℕ) → slice_get ks i ≡ Some k → among nat_eq k slots ≡ true

below_all : (p : ℕ → Bool) (n : ℕ) → ((i : ℕ) → i < n → p i ≡ true) → list_all p (numbers_below n) ≡ true
below_all p zero h = refl
below_all p (suc n) h = all_append p (numbers_below n) (n ∷ []) (below_all p n (λ i l. h i (omega (arith, l)))) (ap (λ b. b && true) (h n (omega arith)))

none_missing : (ks slots : List ℕ) → Covers slots ks → list_all (λ i. among nat_eq i (all_places ks slots)) (numbers_below (length ks)) ≡ true
none_missing ks slots c =
    below_all (λ i. among nat_eq i (all_places ks slots)) (length ks) (λ i l.
    let g : slice_get ks i ≡ Some (get_or ks i 0) = slice_get-get_or ks i 0 l in
    among_all ks slots i (get_or ks i 0) g ∙ c i (get_or ks i 0) g)

-- ---- as many places as keys

no_keys : (n : ℕ) (slots : List ℕ) → length (concat (places_of n [] slots)) ≡ 0
no_keys n [] = refl
no_keys n (s ∷ slots) = no_keys n slots

either : (a b : Bool) → (a || b) ≡ false → (a ≡ false) × (b ≡ false)
either true b h = cc
either false b h = (refl, h)

behind : (b : Bool) (n m : ℕ) (ps xs ys : List ℕ) → b ≡ false → length xs ≡ m + length ys → length ((if b then n ∷ ps else ps) ++ xs) ≡ m + length (ps ++ ys)
behind true n m ps xs ys e h = cc
behind false n m ps xs ys e h = omega (arith, h, length-append ps xs, length-append ps ys)

before : (b : Bool) (n : ℕ) (ps xs ys : List ℕ) → b ≡ true → length xs ≡ 0 + length ys → length ((if b then n ∷ ps else ps) ++ xs) ≡ 1 + length (ps ++ ys)
before true n ps xs ys e h = omega (arith, h, length-append (n ∷ ps) xs, length-append ps ys)
before false n ps xs ys e h = cc

none_more : (n k : ℕ) (ks slots : List ℕ) → among nat_eq k slots ≡ false → length (concat (places_of n (k ∷ ks) slots)) ≡ 0 + length (concat (places_of (suc n) ks slots))
none_more n k ks [] h = refl
none_more n k ks (s ∷ slots) h =
    let out = either (nat_eq k s) (among nat_eq k slots) h in
    behind (nat_eq s k) n 0 (places_from s (suc n) ks) (concat (places_of n (k ∷ ks) slots)) (concat (places_of (suc n) ks slots)) (nat_tells.turned s k ∙ out.0) (none_more n k ks slots out.1)

one_by : (b : Bool) (n k s : ℕ) (ks slots : List ℕ) → nat_eq k s ≡ b → (b || among nat_eq k slots) ≡ true → among nat_eq s slots ≡ false
    → (among nat_eq k slots ≡ true → length (concat (places_of n (k ∷ ks) slots)) ≡ 1 + length (concat (places_of (suc n) ks slots)))
    → length (concat (places_of n (k ∷ ks) (s ∷ slots))) ≡ 1 + length (concat (places_of (suc n) ks (s ∷ slots)))
one_by true n k s ks slots e h o later =
    before (nat_eq s k) n (places_from s (suc n) ks) (concat (places_of n (k ∷ ks) slots)) (concat (places_of (suc n) ks slots)) (nat_tells.turned s k ∙ e) (none_more n k ks slots (ap (λ x. among nat_eq x slots) (eqb-true k s e) ∙ o))
one_by false n k s ks slots e h o later =
    behind (nat_eq s k) n 1 (places_from s (suc n) ks) (concat (places_of n (k ∷ ks) slots)) (concat (places_of (suc n) ks slots)) (nat_tells.turned s k ∙ e) (later h)

one_more : (n k : ℕ) (ks slots : List ℕ) → is_distinct nat_eq slots ≡ true → among nat_eq k slots ≡ true → length (concat (places_of n (k ∷ ks) slots)) ≡ 1 + length (concat (places_of (suc n) ks slots))
one_more n k ks [] d h = cc
one_more n k ks (s ∷ slots) d h =
    let once = both (not (among nat_eq s slots)) (is_distinct nat_eq slots) d in
    one_by (nat_eq k s) n k s ks slots refl h (negated (among nat_eq s slots) once.0) (one_more n k ks slots once.1)

pub as_many_places : (n : ℕ) (ks slots : List ℕ) → is_distinct nat_eq slots ≡ true → Covers slots ks → length (concat (places_of n ks slots)) ≡ length ks
as_many_places n [] slots d c = no_keys n slots
as_many_places n (k ∷ ks) slots d c = one_more n k ks slots d (c 0 k refl) ∙ ap (λ m. 1 + m) (as_many_places (suc n) ks slots d (λ i x h. c (suc i) x h)) ∙ omega arith

three : (a b c : Bool) → a ≡ true → b ≡ true → c ≡ true → (a && b && c) ≡ true
three true true true h k l = refl
three true true false h k l = cc
three true false c h k l = cc
three false b c h k l = cc

pub are_permuted : (ks slots : List ℕ) → is_distinct nat_eq slots ≡ true → Covers slots ks → is_permutation (length (all_places ks slots)) (all_places ks slots) ≡ true
are_permuted ks slots d c =
    ap (λ n. is_permutation n (all_places ks slots)) (as_many_places 0 ks slots d c)
    ∙ three (list_all (λ i. nat_lt i (length ks)) (all_places ks slots)) (list_all (λ i. among nat_eq i (all_places ks slots)) (numbers_below (length ks))) (is_distinct nat_eq (all_places ks slots)) (all_below ks slots) (none_missing ks slots c)
    (distinct_all ks slots d)

-- ---- the item that is looked up

picked : (a b : Bool) (x y : Option Tree) (p : Option Tree) → (if a then p else (if b then x else y)) ≡ (if a || b then (if a then p else x) else y)
picked true b x y p = refl
picked false true x y p = refl
picked false false x y p = refl

item_joined : (ps qs : List ℕ) (xs ys : List Tree) (m : ℕ) → length ps ≡ length xs → item_at (ps ++ qs) (xs ++ ys) m ≡ (if among nat_eq m ps then item_at ps xs m else item_at qs ys m)
item_joined [] qs [] ys m h = refl
item_joined [] qs (x ∷ xs) ys m h = absurd (omega (arith, h))
item_joined (p ∷ ps) qs [] ys m h = absurd (omega (arith, h))
item_joined (p ∷ ps) qs (x ∷ xs) ys m h =
    ap (λ o. if nat_eq m p then Some x else o) (item_joined ps qs xs ys m (omega (arith, h))) ∙ picked (nat_eq m p) (among nat_eq m ps) (item_at ps xs m) (item_at qs ys m) (Some x)

item_kept : (ps : List ℕ) (xs ys : List Tree) (m : ℕ) → length ps ≡ length xs → item_at ps (xs ++ ys) m ≡ item_at ps xs m
item_kept [] [] ys m h = item_none ys m
  where
    item_none : (zs : List Tree) (m : ℕ) → item_at [] zs m ≡ item_at [] [] m
    item_none [] m = refl
    item_none (z ∷ zs) m = refl
item_kept [] (x ∷ xs) ys m h = absurd (omega (arith, h))
item_kept (p ∷ ps) [] ys m h = absurd (omega (arith, h))
item_kept (p ∷ ps) (x ∷ xs) ys m h = ap (λ o. if nat_eq m p then Some x else o) (item_kept ps xs ys m (omega (arith, h)))

none_left : (ps : List ℕ) (m : ℕ) → None ≡ item_at ps [] m
none_left [] m = refl
none_left (p ∷ ps) m = refl

chosen : (b : Bool) (ks : List ℕ) (s k i : ℕ) (xs more : List Tree) (other : Option Tree) → nat_eq s k ≡ b → nat_eq k s ≡ b → length (places_from s 0 ks) ≡ length xs → other ≡ item_at (places_from k 0 ks) more i
    → (if b then item_at (places_from s 0 ks) xs i else other) ≡ item_at (places_from k 0 ks) ((if nat_eq k s then xs else []) ++ more) i
chosen true ks s k i xs more other e d l o =
    sym (item_kept (places_from s 0 ks) xs more i l) ∙ ap (λ x. item_at (places_from x 0 ks) (xs ++ more) i) (eqb-true s k e)
    ∙ ap (λ c. item_at (places_from k 0 ks) ((if c then xs else []) ++ more) i) (sym d)
chosen false ks s k i xs more other e d l o = o ∙ ap (λ c. item_at (places_from k 0 ks) ((if c then xs else []) ++ more) i) (sym d)

looked_up : (ks slots : List ℕ) (ts : List Tree) (i k : ℕ) → slice_get ks i ≡ Some k → are_lists_of (places_of 0 ks slots) ts ≡ true
    → item_at (all_places ks slots) (flat_map items_or_none ts) i ≡ item_at (places_from k 0 ks) (items_for (part_replies slots ts) k) i
looked_up ks [] [] i k h f = none_left (places_from k 0 ks) i
looked_up ks [] (t ∷ ts) i k h f = cc
looked_up ks (s ∷ slots) [] i k h f = cc
looked_up ks (s ∷ slots) (t ∷ ts) i k h f =
    let fit = fits (is_list_of (length (places_from s 0 ks)) t) (are_lists_of (places_of 0 ks slots) ts) f in
    let same : length (places_from s 0 ks) ≡ length (items_or_none t) = counted (length (places_from s 0 ks)) t fit.0 in
    let other : Option Tree = item_at (all_places ks slots) (flat_map items_or_none ts) i in
    item_joined (places_from s 0 ks) (all_places ks slots) (items_or_none t) (flat_map items_or_none ts) i same
    ∙ ap (λ b. if b then item_at (places_from s 0 ks) (items_or_none t) i else other) (among_one s i k ks h)
    ∙ chosen (nat_eq s k) ks s k i (items_or_none t) (items_for (part_replies slots ts) k) other refl (nat_tells.turned k s) same (looked_up ks slots ts i k h fit.1)

filter_map-map : (g : ℕ → Option Tree) (f : ℕ → ℕ) (h : ℕ → Option Tree) (ns : List ℕ) → ((n : ℕ) → h n ≡ g (f n)) → filter_map h ns ≡ filter_map g (map f ns)
filter_map-map g f h [] e = refl
filter_map-map g f h (n ∷ ns) e = ap (λ o. cons_option o (filter_map h ns)) (e n) ∙ ap (cons_option (g (f n))) (filter_map-map g f h ns e)

spread_is : (f : ℕ → ℕ → Option Tree) (g : ℕ → Option Tree) (n : ℕ) (ks : List ℕ) → ((i k : ℕ) → slice_get ks i ≡ Some k → f k (n + i) ≡ g (n + i)) → spread f n ks ≡ filter_map (λ i. g (n + i)) (numbers_below (length ks))
spread_is f g n [] h = refl
spread_is f g n (k ∷ ks) h =
    ap (λ o. cons_option o (spread f (suc n) ks)) (ap (f k) (sym (none_plus n)) ∙ h 0 k refl)
    ∙ ap (cons_option (g (n + 0))) (
    spread_is f g (suc n) ks (λ i x e. ap (f x) (sym (moved n i)) ∙ h (suc i) x e ∙ ap g (moved n i))
    ∙ filter_map-map (λ i. g (n + i)) (λ i. suc i) (λ i. g (suc n + i)) (numbers_below (length ks)) (λ i. ap g (sym (moved n i)))
    )
    ∙ ap (filter_map (λ i. g (n + i))) (sym (below_front (length ks)))

alike : (g h : ℕ → Option Tree) (ns : List ℕ) → ((n : ℕ) → g n ≡ h n) → filter_map g ns ≡ filter_map h ns
alike g h [] e = refl
alike g h (n ∷ ns) e = ap (λ o. cons_option o (filter_map g ns)) (e n) ∙ ap (cons_option (h n)) (alike g h ns e)

-- what is drawn are the items by their places
pub drawn_by_place : (ks slots : List ℕ) (ts : List Tree) → is_distinct nat_eq slots ≡ true → Covers slots ks → are_lists_of (places_of 0 ks slots) ts ≡ true
    → by_place (all_places ks slots) (flat_map items_or_none ts) ≡ draw ks (items_for (part_replies slots ts))
drawn_by_place ks slots ts d c f =
    let q : ℕ → List Tree = items_for (part_replies slots ts) in
    let g : ℕ → Option Tree = item_at (all_places ks slots) (flat_map items_or_none ts) in
    ap (λ n. filter_map g (numbers_below n)) (as_many_places 0 ks slots d c)
    ∙ alike g (λ i. g (0 + i)) (numbers_below (length ks)) (λ i. ap g (sym (plus_none i)))
    ∙ sym (
    spread_is (λ s m. item_at (places_from s 0 ks) (q s) m) g 0 ks (λ i k h.
    ap (item_at (places_from k 0 ks) (q k)) (plus_none i) ∙ sym (looked_up ks slots ts i k h f) ∙ ap g (sym (plus_none i)))
    )
    ∙ sym (drawn ks 0 q)
