-- A split command that is cut into parts: the places of its tuples, and the slots in an order.
use Rattle.std.specs.Prelude.{nat_eq, nat_lt, ◌==◌, ◌-◌, ◌*◌, ◌/◌, slice_get, filter_map, flat_map, option_and_then}
use Rattle.std.specs.List.{list_all, cons_option}
use Rattle.std.proofs.Common.{◌≡◌, ℕ, zero, suc, ◌+◌, ◌<◌, ◌≤◌, Bool, true, false, not, ◌&&◌, ◌||◌, if◌then◌else◌, List, [], ◌∷◌, ◌++◌, length, map, drop, refl, sym, ap, ◌∙◌, arith, Option, Some, None, option_map, subst, Vec, Global, rules}
use Rattle.std.specs.Bool.{⊤}
use Rattle.std.proofs.Math.Nat.{suc-mul, mul-div_cancel}
use Rattle.std.proofs.lemmas.Bool.{eqb-true}
use Rattle.std.proofs.lemmas.Bool.Decides.{nat_tests}
use Rattle.std.proofs.lemmas.List.Folds.{list_all-append}
use Rattle.std.proofs.lemmas.Option.{slice_get_within}
use Rattle.std.proofs.lemmas.List.{length-take-le, length-drop, length-map}
use Rattle.resp_core.specs.Trees.{Tree, okay}
use Rattle.resp_core.specs.View.{view}
use Rattle.resp_core.specs.declared.value.Value.{Value, Okay, the_lemmas}
use Rattle.cluster_routing.specs.declared.policy.MultiSlotArgPattern.{MultiSlotArgPattern}
use Rattle.cluster_routing.specs.declared.policy.MultiSlotArgPattern.TheVariants.{KeysOnly, KeyValuePairs, KeysAndLastArg, KeyWithTwoArgTriples}
use Rattle.cluster_routing.specs.declared.route.Route.{Route}
use Rattle.cluster_routing.specs.Info.{shown_part}
use Rattle.cluster_routing.specs.Combine.{PartReply, combine, combine_by, are_lists_of, array_of, by_place, every, in_places, is_list_of, items_by_place, items_for, items_or_none, part_replies, slots_by, tuple_places, IsCutInto, trees_in}
use Rattle.cluster_routing.specs.Laws.{StandOnce}
use Rattle.cluster_routing.specs.Lists.{among, draw, firsts, is_distinct, is_permutation, numbers_below}
use Rattle.cluster_routing.specs.Parts.{Tuple, argument_slots, in_tuples, places_from, tuple_count, tuple_slot, tuples_from, width_of}
use Rattle.cluster_routing.specs.Split.{Split, Splitting, cut, part_tuples, shared_by, split_of, splitting_of, with_tuples}
use Rattle.cluster_routing.proofs.Distinct.{nat_tells}
use Rattle.cluster_routing.proofs.Gathered.{once}
use Rattle.cluster_routing.proofs.SlotPlaces.{Covers, all_places, are_permuted, both, drawn_by_place, places_of, some_same}
use Rattle.cluster_routing.proofs.ServingShards.{among-firsts}
use Rattle.cluster_routing.proofs.TuplesInTurn.{count_fits}

-- ---- each so-manieth place

zero_not : (n : ℕ) → (suc n == 0) ≡ false
zero_not n = grind (arith, nat_tests)

one_less : (n : ℕ) → suc n - 1 ≡ n
one_less n = omega arith

-- ascending numbers, as many as the list has elements
abbrev up_by : {X : Type 0} → List X → ℕ → List ℕ
up_by [] n = []
up_by (x ∷ xs) n = n ∷ up_by xs (suc n)

passed_over : {X : Type 0} (w : ℕ) (t : List X) (n : ℕ) (ps : List ℕ) → every w (length t) (up_by t n ++ ps) ≡ every w 0 ps
passed_over w [] n ps = refl
passed_over w (x ∷ t) n ps =
    ap (λ b. if b then n ∷ every w (w - 1) (up_by t (suc n) ++ ps) else every w (suc (length t) - 1) (up_by t (suc n) ++ ps)) (zero_not (length t))
    ∙ ap (λ k. every w k (up_by t (suc n) ++ ps)) (one_less (length t))
    ∙ passed_over w t (suc n) ps

one_taken : {X : Type 0} (w : ℕ) (t : List X) (n : ℕ) (ps : List ℕ) → 0 < w → length t ≡ w → every w 0 (up_by t n ++ ps) ≡ n ∷ every w 0 ps
one_taken w [] n ps p h = absurd (omega (arith, p, h))
one_taken w (x ∷ t) n ps p h =
    let z : (0 == 0) ≡ true = grind (arith, nat_tests) in
    let k : w - 1 ≡ length t = omega (arith, h) in
    ap (λ b. if b then n ∷ every w (w - 1) (up_by t (suc n) ++ ps) else every w (0 - 1) (up_by t (suc n) ++ ps)) z
    ∙ ap (λ m. n ∷ every w m (up_by t (suc n) ++ ps)) k
    ∙ ap (λ ys. n ∷ ys) (passed_over w t (suc n) ps)

further : (n l : ℕ) → suc n + l ≡ n + suc l
further n l = omega arith

-- the places of a tuple's arguments
run_by : (b : Bool) (n : ℕ) (us ps qs : List ℕ) → qs ≡ (if b then us ++ ps else ps) → (if b then n ∷ qs else qs) ≡ (if b then (n ∷ us) ++ ps else ps)
run_by true n us ps qs h = ap (λ ys. n ∷ ys) h
run_by false n us ps qs h = h

run : {X : Type 0} (slot n s : ℕ) (t : List X) (more : List ℕ) → places_from slot n (map (λ _. s) t ++ more) ≡ (if nat_eq slot s then up_by t n ++ places_from slot (n + length t) more else places_from slot (n + length t) more)
run slot n s [] more = let e : n ≡ n + 0 = omega arith in ap (λ k. places_from slot k more) e ∙ same (nat_eq slot s) (places_from slot (n + 0) more)
  where
    same : (b : Bool) (ps : List ℕ) → ps ≡ (if b then ps else ps)
    same true ps = refl
    same false ps = refl
run slot n s (x ∷ t) more =
    run_by (nat_eq slot s) n (up_by t (suc n)) (places_from slot (n + suc (length t)) more) (places_from slot (suc n) (map (λ _. s) t ++ more))
    (run slot (suc n) s t more ∙ ap (λ k. if nat_eq slot s then up_by t (suc n) ++ places_from slot k more else places_from slot k more) (further n (length t)))

abbrev pub AreWide : ℕ → List Tuple → Type 0
AreWide w [] = ⊤
AreWide w (t ∷ ts) = (length t ≡ w) × AreWide w ts

taken_by : (b : Bool) (w n : ℕ) (t : Tuple) (ps qs : List ℕ) → 0 < w → length t ≡ w → map (λ p. p / w) (every w 0 ps) ≡ qs
    → map (λ p. p / w) (every w 0 (if b then up_by t (n * w) ++ ps else ps)) ≡ (if b then n ∷ qs else qs)
taken_by true w n t ps qs p h e = ap (map (λ p. p / w)) (one_taken w t (n * w) ps p h) ∙ ap (λ k. k ∷ map (λ p. p / w) (every w 0 ps)) (mul-div_cancel n p) ∙ ap (λ ys. n ∷ ys) e
taken_by false w n t ps qs p h e = e

tuples_at : (w slot n : ℕ) (ts : List Tuple) → 0 < w → AreWide w ts → map (λ p. p / w) (every w 0 (places_from slot (n * w) (argument_slots ts))) ≡ places_from slot n (map tuple_slot ts)
tuples_at w slot n [] p a = refl
tuples_at w slot n (t ∷ ts) p a =
    let next : n * w + length t ≡ suc n * w = ap (λ l. n * w + l) a.0 ∙ sym (suc-mul n w) in
    ap (λ ps. map (λ p. p / w) (every w 0 ps)) (
    run slot (n * w) (tuple_slot t) t (argument_slots ts)
    ∙ ap (λ k. if nat_eq slot (tuple_slot t) then up_by t (n * w) ++ places_from slot k (argument_slots ts) else places_from slot k (argument_slots ts)) next
    )
    ∙ taken_by (nat_eq slot (tuple_slot t)) w n t (places_from slot (suc n * w) (argument_slots ts)) (places_from slot (suc n) (map tuple_slot ts)) p a.0 (tuples_at w slot (suc n) ts p a.1)

none_times : (w : ℕ) → 0 ≡ 0 * w
none_times w = omega arith

all_tuples_at : (w : ℕ) (slots : List ℕ) (ts : List Tuple) → 0 < w → AreWide w ts → map (tuple_places w) (map (λ slot. places_from slot 0 (argument_slots ts)) slots) ≡ places_of 0 (map tuple_slot ts) slots
all_tuples_at w [] ts p a = refl
all_tuples_at w (s ∷ slots) ts p a =
    ap (λ ps. ps ∷ map (tuple_places w) (map (λ slot. places_from slot 0 (argument_slots ts)) slots)) (ap (λ k. tuple_places w (places_from s k (argument_slots ts))) (none_times w) ∙ tuples_at w s 0 ts p a)
    ∙ ap (λ pss. places_from s 0 (map tuple_slot ts) ∷ pss) (all_tuples_at w slots ts p a)

-- ---- the tuples of a split are as wide as its pattern says

wide_from : (n w : ℕ) (args : List (List ℕ)) → n * w ≤ length args → AreWide w (tuples_from n w args)
wide_from zero w args h = tt
wide_from (suc n) w args h =
    let e : suc n * w ≡ n * w + w = suc-mul n w in
    (length-take-le w args (omega (arith, e, h)), wide_from n w (drop w args) (omega (arith, e, h, length-drop w args)))

wide_counted : (w : ℕ) (args : List (List ℕ)) (o : Option ℕ) (ts : List Tuple) → o ≡ tuple_count w (length args) → option_map (λ n. tuples_from n w args) o ≡ Some ts → AreWide w ts
wide_counted w args None ts c h = cc
wide_counted w args (Some n) ts c h = subst (AreWide w) (told h) (wide_from n w args (count_fits w (length args) n c))
  where
    told : {xs ys : List Tuple} → Some xs ≡ Some ys → xs ≡ ys
    told h = cc

-- what is known of a split
pub record Wide (s : Split) : Type 0 where
  pub wide : AreWide (width_of s.splitting.pattern) s.tuples

wide_made : (word : List ℕ) (sp : Splitting) (shared : List (List ℕ)) (o : Option (List Tuple)) (s : Split) → ((ts : List Tuple) → o ≡ Some ts → AreWide (width_of sp.pattern) ts) → with_tuples word sp shared o ≡ Some s → Wide s
wide_made word sp shared None s a h = cc
wide_made word sp shared (Some []) s a h = cc
wide_made word sp shared (Some (t ∷ ts)) s a h = subst Wide (told h) (record { wide = a (t ∷ ts) refl })
  where
    told : {x y : Split} → Some x ≡ Some y → x ≡ y
    told h = cc

wide_by : (word : List ℕ) (args : List (List ℕ)) (o : Option Splitting) (s : Split) → option_and_then (λ (sp : Splitting). with_tuples word sp (shared_by sp.pattern args) (cut sp.pattern args)) o ≡ Some s → Wide s
wide_by word args None s h = cc
wide_by word args (Some sp) s h =
    let given : List (List ℕ) = in_tuples sp.pattern args in
    wide_made word sp (shared_by sp.pattern args) (cut sp.pattern args) s (λ ts e. wide_counted (width_of sp.pattern) given (tuple_count (width_of sp.pattern) (length given)) ts refl e) h

wide_split : (args : List (List ℕ)) (s : Split) → split_of args ≡ Some s → Wide s
wide_split [] s h = cc
wide_split (word ∷ args) s h = wide_by word args (splitting_of word) s h

-- ---- slots in an order

is_among : (k i : ℕ) (xs : List ℕ) → slice_get xs i ≡ Some k → among nat_eq k xs ≡ true
is_among k i [] h = cc
is_among k zero (x ∷ xs) h = let e : nat_eq k x ≡ true = grind (arith, nat_tests, some_same h) in ap (λ b. b || among nat_eq k xs) e
is_among k (suc i) (x ∷ xs) h = or_true (nat_eq k x) (among nat_eq k xs) (is_among k i xs h)
  where
    or_true : (a b : Bool) → b ≡ true → (a || b) ≡ true
    or_true true b e = refl
    or_true false b e = e

other_than : (x k i : ℕ) (xs : List ℕ) → among nat_eq x xs ≡ false → slice_get xs i ≡ Some k → nat_eq x k ≡ false
other_than x k i xs h g = by (nat_eq x k) refl
  where
    by : (b : Bool) → nat_eq x k ≡ b → nat_eq x k ≡ false
    by true e = let c : true ≡ false = sym (is_among k i xs g) ∙ ap (λ y. among nat_eq y xs) (sym (eqb-true x k e)) ∙ h in cc
    by false e = e

same_suc : (i j : ℕ) → nat_eq i j ≡ nat_eq (suc i) (suc j)
same_suc i j = grind (arith, nat_tests)

never_first : (j : ℕ) → false ≡ nat_eq 0 (suc j)
never_first j = grind (arith, nat_tests)

never_zero : (i : ℕ) → false ≡ nat_eq (suc i) 0
never_zero i = grind (arith, nat_tests)

-- elements that stand once are the same where their numbers are
same_number : (xs : List ℕ) (i j x y : ℕ) → StandOnce xs → slice_get xs i ≡ Some x → slice_get xs j ≡ Some y → nat_eq x y ≡ nat_eq i j
same_number [] i j x y o h g = cc
same_number (z ∷ xs) zero zero x y o h g = let e : x ≡ y = sym (some_same h) ∙ some_same g in grind (arith, nat_tests, e)
same_number (z ∷ xs) zero (suc j) x y o h g = ap (λ u. nat_eq u y) (sym (some_same h)) ∙ other_than z y j xs o.0 g ∙ never_first j
same_number (z ∷ xs) (suc i) zero x y o h g = ap (nat_eq x) (sym (some_same g)) ∙ nat_tells.turned x z ∙ other_than z x i xs o.0 h ∙ never_zero i
same_number (z ∷ xs) (suc i) (suc j) x y o h g = same_number xs i j x y o.1 h g ∙ same_suc i j

abbrev in_order : List ℕ → List ℕ → List ℕ
in_order xs order = filter_map (slice_get xs) order

-- an element stands among those in the order where its number does
among_by : (xs : List ℕ) (i j x : ℕ) (o : Option ℕ) (order : List ℕ) → StandOnce xs → slice_get xs i ≡ Some x → slice_get xs j ≡ o → among nat_eq x (in_order xs order) ≡ among nat_eq i order
    → among nat_eq x (cons_option o (in_order xs order)) ≡ (nat_eq i j || among nat_eq i order)
among_by xs i j x None order w h g later = later ∙ ap (λ b. b || among nat_eq i order) apart
  where
    by : (b : Bool) → nat_eq i j ≡ b → false ≡ nat_eq i j
    by true e = let c : Some x ≡ None = sym h ∙ ap (slice_get xs) (eqb-true i j e) ∙ g in cc
    by false e = sym e

    apart : false ≡ nat_eq i j
    apart = by (nat_eq i j) refl
among_by xs i j x (Some y) order w h g later = ap (λ b. b || among nat_eq x (in_order xs order)) (same_number xs i j x y w h g) ∙ ap (λ b. nat_eq i j || b) later

among_order : (xs : List ℕ) (i x : ℕ) (order : List ℕ) → StandOnce xs → slice_get xs i ≡ Some x → among nat_eq x (in_order xs order) ≡ among nat_eq i order
among_order xs i x [] w h = refl
among_order xs i x (j ∷ order) w h = among_by xs i j x (slice_get xs j) order w h refl (among_order xs i x order w h)

distinct_by : (xs : List ℕ) (j : ℕ) (o : Option ℕ) (order : List ℕ) → StandOnce xs → slice_get xs j ≡ o → not (among nat_eq j order) ≡ true → is_distinct nat_eq (in_order xs order) ≡ true → is_distinct nat_eq (cons_option o (in_order xs order)) ≡ true
distinct_by xs j None order w g h later = later
distinct_by xs j (Some x) order w g h later = ap (λ b. b && is_distinct nat_eq (in_order xs order)) (ap not (among_order xs j x order w g) ∙ h) ∙ later

distinct_order : (xs order : List ℕ) → StandOnce xs → is_distinct nat_eq order ≡ true → is_distinct nat_eq (in_order xs order) ≡ true
distinct_order xs [] w h = refl
distinct_order xs (j ∷ order) w h =
    let own = both (not (among nat_eq j order)) (is_distinct nat_eq order) h in
    distinct_by xs j (slice_get xs j) order w refl own.0 (distinct_order xs order w own.1)

-- an element has a number
numbered : (x : ℕ) (xs : List ℕ) (c : Bool) → among nat_eq x xs ≡ true → ((i : ℕ) → slice_get xs i ≡ Some x → c ≡ true) → c ≡ true
numbered x [] c h f = cc
numbered x (y ∷ xs) c h f = by (nat_eq x y) refl h (λ a. numbered x xs c a (λ i g. f (suc i) g))
  where
    by : (b : Bool) → nat_eq x y ≡ b → (b || among nat_eq x xs) ≡ true → (among nat_eq x xs ≡ true → c ≡ true) → c ≡ true
    by true e a later = f 0 (ap (λ u. Some u) (sym (eqb-true x y e)))
    by false e a later = later a

told_below : (p : ℕ → Bool) (n i : ℕ) → list_all p (numbers_below n) ≡ true → i < n → p i ≡ true
told_below p zero i h l = absurd (omega (arith, l))
told_below p (suc n) i h l = by (nat_eq i n) refl (told_below p n i tests.0)
  where
    tests : (list_all p (numbers_below n) ≡ true) × (list_all p (n ∷ []) ≡ true)
    tests = both (list_all p (numbers_below n)) (list_all p (n ∷ [])) (sym (list_all-append p (numbers_below n) (n ∷ [])) ∙ h)

    by : (b : Bool) → nat_eq i n ≡ b → (i < n → p i ≡ true) → p i ≡ true
    by true e later = ap p (eqb-true i n e) ∙ (both (p n) true tests.1).0
    by false e later = later (grind (arith, nat_tests, e, l))

two_of : (a b c : Bool) → (a && b && c) ≡ true → (b ≡ true) × (c ≡ true)
two_of true true true h = (refl, refl)
two_of true true false h = cc
two_of true false c h = cc
two_of false b c h = cc

tests_of : (n : ℕ) (order : List ℕ) → is_permutation n order ≡ true → (list_all (λ i. among nat_eq i order) (numbers_below n) ≡ true) × (is_distinct nat_eq order ≡ true)
tests_of n order h = two_of (list_all (λ i. nat_lt i n) order) (list_all (λ i. among nat_eq i order) (numbers_below n)) (is_distinct nat_eq order) h

covered : (ks order : List ℕ) → is_permutation (length (firsts nat_eq ks)) order ≡ true → Covers (in_order (firsts nat_eq ks) order) ks
covered ks order p i k h =
    let slots : List ℕ = firsts nat_eq ks in
    numbered k slots (among nat_eq k (in_order slots order)) (among-firsts nat_eq nat_tells k ks ∙ is_among k i ks h) (λ j g.
    among_order slots j k order (once ks) g ∙ told_below (λ m. among nat_eq m order) (length slots) j (tests_of (length slots) order p).0 (slice_get_within slots j k g))

-- ---- one reply

length_by : {X : Type 0} (b : Bool) (n : ℕ) (ps : List ℕ) (t : X) (ts : List X) → length ps ≡ length ts → length (if b then n ∷ ps else ps) ≡ length (if b then t ∷ ts else ts)
length_by true n ps t ts h = ap (λ k. suc k) h
length_by false n ps t ts h = h

-- a slot has as many places as tuples
as_many_tuples : (s n : ℕ) (ts : List Tuple) → length (places_from s n (map tuple_slot ts)) ≡ length (part_tuples s ts)
as_many_tuples s n [] = refl
as_many_tuples s n (t ∷ ts) = length_by (nat_eq s (tuple_slot t)) n (places_from s (suc n) (map tuple_slot ts)) t (part_tuples s ts) (as_many_tuples s (suc n) ts)

all_fit : (ts : List Tuple) (slots : List ℕ) (trees : List Tree) → length trees ≡ length slots
    → are_lists_of (places_of 0 (map tuple_slot ts) slots) trees ≡ list_all (λ (r : PartReply). is_list_of (length (part_tuples r.slot ts)) r.tree) (part_replies slots trees)
all_fit ts [] [] h = refl
all_fit ts [] (t ∷ trees) h = absurd (omega (arith, h))
all_fit ts (s ∷ slots) [] h = absurd (omega (arith, h))
all_fit ts (s ∷ slots) (t ∷ trees) h =
    ap (λ n. is_list_of n t && are_lists_of (places_of 0 (map tuple_slot ts) slots) trees) (as_many_tuples s 0 ts) ∙ ap (λ b. is_list_of (length (part_tuples s ts)) t && b) (all_fit ts slots trees (omega (arith, h)))

gathered : (s : Split) (slots : List ℕ) (trees : List Tree) → is_distinct nat_eq slots ≡ true → Covers slots (map tuple_slot s.tuples) → length trees ≡ length slots
    → items_by_place (places_of 0 (map tuple_slot s.tuples) slots) trees ≡ in_places s (part_replies slots trees)
gathered s slots trees d c l = by (are_lists_of (places_of 0 ks slots) trees) refl ∙ ap (λ b. if b then drawn_reply else None) (all_fit s.tuples slots trees l)
  where
    ks : List ℕ
    ks = map tuple_slot s.tuples

    permuted : Bool
    permuted = is_permutation (length (all_places ks slots)) (all_places ks slots)

    placed_reply : Option Tree
    placed_reply = Some (array_of (by_place (all_places ks slots) (flat_map items_or_none trees)))

    drawn_reply : Option Tree
    drawn_reply = Some (array_of (draw ks (items_for (part_replies slots trees))))

    by : (b : Bool) → are_lists_of (places_of 0 ks slots) trees ≡ b → (if are_lists_of (places_of 0 ks slots) trees && permuted then placed_reply else None) ≡ (if are_lists_of (places_of 0 ks slots) trees then drawn_reply else None)
    by true e =
        ap (λ b. if b && permuted then placed_reply else None) e ∙ ap (λ b. if b then placed_reply else None) (are_permuted ks slots d c)
        ∙ ap (λ items. Some (array_of items)) (drawn_by_place ks slots trees d c e)
        ∙ sym (ap (λ b. if b then drawn_reply else None) e)
    by false e = ap (λ b. if b && permuted then placed_reply else None) e ∙ sym (ap (λ b. if b then drawn_reply else None) e)

some_wide : (pattern : MultiSlotArgPattern) → 0 < width_of pattern
some_wide KeysOnly = omega arith
some_wide KeyValuePairs = omega arith
some_wide KeysAndLastArg = omega arith
some_wide KeyWithTwoArgTriples = omega arith

pub view-Okay : view Okay ≡ okay
view-Okay = search (rules, the_lemmas)

pub part_places : (w : ℕ) (parts : List (Route × Vec ℕ Global)) → map (λ p. tuple_places w p.1.items) parts ≡ map (tuple_places w) (map (λ p. p.1) (map shown_part parts))
part_places w [] = refl
part_places w (p ∷ parts) = ap (λ pss. tuple_places w p.1.items ∷ pss) (part_places w parts)

same_trees : (slots : List ℕ) (trees : List Tree) → length trees ≡ length slots → trees_in (part_replies slots trees) ≡ trees
same_trees [] [] h = refl
same_trees [] (t ∷ trees) h = absurd (omega (arith, h))
same_trees (s ∷ slots) [] h = absurd (omega (arith, h))
same_trees (s ∷ slots) (t ∷ trees) h = ap (λ ts. t ∷ ts) (same_trees slots trees (omega (arith, h)))

module _ {args : List (List ℕ)} {s : Split} {order : List ℕ} {splitting : Splitting} {positions : List (List ℕ)} (values : List Value) (cut_into : IsCutInto args s order splitting positions (length values)) where
  as_many : length (map view values) ≡ length (slots_by order s)
  as_many = length-map values view ∙ cut_into.are_counted

  pub by_policy : combine_by splitting.policy s (part_replies (slots_by order s) (map view values)) ≡ combine s (part_replies (slots_by order s) (map view values))
  by_policy = ap (λ (sp : Splitting). combine_by sp.policy s (part_replies (slots_by order s) (map view values))) (sym cut_into.is_made)

  pub trees_of_parts : trees_in (part_replies (slots_by order s) (map view values)) ≡ map view values
  trees_of_parts = same_trees (slots_by order s) (map view values) as_many

  pub arrays_of_parts : items_by_place (map (tuple_places (width_of splitting.pattern)) positions) (map view values) ≡ in_places s (part_replies (slots_by order s) (map view values))
  arrays_of_parts =
      let w : ℕ = width_of splitting.pattern in
      let wide : AreWide w s.tuples = subst (λ (sp : Splitting). AreWide (width_of sp.pattern) s.tuples) cut_into.is_made (wide_split args s cut_into.is_split).wide in
      let ks : List ℕ = map tuple_slot s.tuples in
      ap (λ pss. items_by_place (map (tuple_places w) pss) (map view values)) cut_into.are_places
      ∙ ap (λ pss. items_by_place pss (map view values)) (all_tuples_at w (slots_by order s) s.tuples (some_wide splitting.pattern) wide)
      ∙ gathered s (slots_by order s) (map view values) (distinct_order (firsts nat_eq ks) order (once ks) (tests_of (length (firsts nat_eq ks)) order cut_into.is_order).1) (covered ks order cut_into.is_order) as_many
