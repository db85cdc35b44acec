-- Where the reply made of those of the parts holds no error, none of theirs does.
use Rattle.std.proofs.Common.{◌≡◌, ℕ, ℤ, Bool, true, false, cond, ◌||◌, ◌&&◌, ◌==◌, nat_eq, List, [], ◌∷◌, ◌++◌, map, filter, length, arith, Option, Some, None, refl, sym, ap, ◌∙◌, subst, append-nil, eqb-true, eq-eqb}
use Rattle.std.specs.Prelude.{option_and_then, ⊤}
use Rattle.std.specs.List.{AllByRecursion, list_all}
use Rattle.std.proofs.lemmas.Bool.{false≢true}
use Rattle.resp_core.specs.Trees.{Tree, Trees, no_trees, tree, ErrorText, nil, int, bulk, array, simple, okay, attribute, set, double, boolean, verbatim, big_number, push, server_error}
use Rattle.resp_core.specs.Trees as trees
use Rattle.resp_core.specs.Parts.{or_else, first_error, first_error_of}
use Rattle.cluster_routing.specs.Combine.{PartReply, trees_of, array_of, items_or_none, is_list_of, items_for, plus, sum_of, as_int, is_okay, trees_in, combine_by}
use Rattle.cluster_routing.specs.Lists.{among, IsDistinct, draw, without_front_of, front, rest}
use Rattle.cluster_routing.specs.Parts.{tuple_slot}
use Rattle.cluster_routing.specs.SlotsReply.{items}
use Rattle.cluster_routing.specs.Split.{Split, part_tuples}
use Rattle.cluster_routing.specs.declared.policy.ResponsePolicy.{ResponsePolicy}
use Rattle.cluster_routing.specs.declared.policy.ResponsePolicy.TheVariants.{OneSucceeded, FirstSucceededNonEmptyOrAllEmpty, AllSucceeded, AggregateLogical, Aggregate, CombineArrays, Special, CombineMaps}
use Rattle.cluster_routing.specs.declared.policy.AggregateOp.TheVariants.{Min, Sum}
use Rattle.cluster_routing.proofs.Placed.{counted}
use Rattle.cluster_calls.specs.OneServer.Meaning.{IsData}
use Rattle.cluster_calls.proofs.ServerLaws.Grouping.{all-halves}

-- ---- arrays

items_without : (ts : List Tree) → IsData (array_of ts) → AllByRecursion IsData ts
unfolding first_error
items_without [] e = tt
items_without (t ∷ ts) e = by (first_error t) refl e (λ f. items_without ts f)
  where
    by : (o : Option ErrorText) → first_error t ≡ o → or_else o (first_error_of (trees_of ts)) ≡ None → (first_error_of (trees_of ts) ≡ None → AllByRecursion IsData ts) → IsData t × AllByRecursion IsData ts
    by None f e ih = (f, ih e)
    by (Some err) f e ih = cc

array_without : (ts : Trees) → AllByRecursion IsData (items ts) → IsData (array ts)
unfolding first_error
array_without no_trees h = refl
array_without (tree t ts) h = ap (λ o. or_else o (first_error_of ts)) h.0 ∙ array_without ts h.1

-- ---- what is drawn is all that there is

-- no more elements than places
abbrev Fits : {A X : Type 0} → List A → List X → Type 0
Fits [] [] = ⊤
Fits (a ∷ as') [] = ⊤
Fits [] (x ∷ xs) = ⊥
Fits (a ∷ as') (x ∷ xs) = Fits as' xs

fits_none : {A : Type 0} (X : Type 0) (as' : List A) → Fits {A = A} {X = X} as' []
fits_none X [] = tt
fits_none X (a ∷ as') = tt

fits_as_many : {A X : Type 0} (as' : List A) (xs : List X) → length as' ≡ length xs → Fits as' xs
fits_as_many [] [] e = tt
fits_as_many [] (x ∷ xs) e = cc
fits_as_many (a ∷ as') [] e = tt
fits_as_many (a ∷ as') (x ∷ xs) e = fits_as_many as' xs (let k : length as' ≡ length xs = omega (arith, e) in k)

none_left : (A : Type 0) {X : Type 0} (P : X → Type 0) (xs : List X) → Fits {A = A} [] xs → AllByRecursion P xs
none_left A P [] h = tt
none_left A P (x ∷ xs) h = absurd h

front_and_rest : {X : Type 0} (P : X → Type 0) (xs : List X) → AllByRecursion P (front xs) → AllByRecursion P (rest xs) → AllByRecursion P xs
front_and_rest P [] h k = tt
front_and_rest P (x ∷ xs) h k = (h.0, k)

-- where no queue has more than its key's places, what is so of all that is drawn is so of each queue
all_drawn : {T X : Type 0} (P : X → Type 0) (key : T → ℕ) (ts : List T) (f : ℕ → List X) → ((s : ℕ) → Fits (filter (λ t. s == key t) ts) (f s)) → AllByRecursion P (draw (map key ts) f) → (s : ℕ) → AllByRecursion P (f s)
all_drawn {T} P key [] f h a s = none_left T P (f s) (h s)
all_drawn {T} {X} P key (t ∷ ts) f h a s = by (s == key t) refl (all_drawn P key ts (without_front_of (key t) f) (λ n. left (filter (λ u. n == key u) ts) (n == key t) (f n) (h n)) both.1 s)
  where
    both : AllByRecursion P (front (f (key t))) × AllByRecursion P (draw (map key ts) (without_front_of (key t) f))
    both = all-halves P (front (f (key t))) (draw (map key ts) (without_front_of (key t) f)) a

    left : (us : List T) (b : Bool) (xs : List X) → Fits (cond b (t ∷ us) us) xs → Fits us (cond b (rest xs) xs)
    left us true [] g = fits_none X us
    left us true (x ∷ xs) g = g
    left us false xs g = g

    by : (b : Bool) → s == key t ≡ b → AllByRecursion P (cond b (rest (f s)) (f s)) → AllByRecursion P (f s)
    by true e r = front_and_rest P (f s) (subst (λ n. AllByRecursion P (front (f n))) (sym (eqb-true s (key t) e)) both.0) r
    by false e r = r

-- ---- the items of a slot

no_items : (rs : List PartReply) (s : ℕ) → among nat_eq s (map (λ (r : PartReply). r.slot) rs) ≡ false → items_for rs s ≡ []
no_items [] s e = refl
no_items (r ∷ rs) s e = by (s == r.slot) e (λ f. no_items rs s f)
  where
    by : (b : Bool) → (b || among nat_eq s (map (λ (r : PartReply). r.slot) rs)) ≡ false → (among nat_eq s (map (λ (r : PartReply). r.slot) rs) ≡ false → items_for rs s ≡ []) → cond b (items_or_none r.tree) [] ++ items_for rs s ≡ []
    by true e ih = absurd (false≢true (sym e))
    by false e ih = ih e

all_parts : (q : PartReply → Bool) (r : PartReply) (rs : List PartReply) → list_all q (r ∷ rs) ≡ true → (q r ≡ true) × (list_all q rs ≡ true)
all_parts q r rs e = by (q r) refl e
  where
    by : (b : Bool) → q r ≡ b → (b && list_all q rs) ≡ true → (q r ≡ true) × (list_all q rs ≡ true)
    by true f e = (f, e)
    by false f e = absurd (false≢true e)

module _ (split : Split) where
  abbrev fills : PartReply → Bool
  fills r = is_list_of (length (part_tuples r.slot split.tuples)) r.tree

  -- of parts with slots of their own each slot has no more items than tuples
  slot_fits : (rs : List PartReply) → IsDistinct nat_eq (map (λ (r : PartReply). r.slot) rs) → list_all fills rs ≡ true → (s : ℕ) → Fits (part_tuples s split.tuples) (items_for rs s)
  slot_fits [] d e s = fits_none Tree (part_tuples s split.tuples)
  slot_fits (r ∷ rs) d e s = by (s == r.slot) refl (slot_fits rs d.1 here.1 s)
    where
      here : (fills r ≡ true) × (list_all fills rs ≡ true)
      here = all_parts fills r rs e

      by : (b : Bool) → s == r.slot ≡ b → Fits (part_tuples s split.tuples) (items_for rs s) → Fits (part_tuples s split.tuples) (cond b (items_or_none r.tree) [] ++ items_for rs s)
      by false f ih = ih
      by true f ih =
          let same = eqb-true s r.slot f in
          let none = no_items rs s (ap (λ n. among nat_eq n (map (λ (r : PartReply). r.slot) rs)) same ∙ d.0) in
          subst (λ q. Fits (part_tuples s split.tuples) (items_or_none r.tree ++ q)) (sym none)
          (subst (Fits (part_tuples s split.tuples)) (sym (append-nil (items_or_none r.tree)))
          (fits_as_many (part_tuples s split.tuples) (items_or_none r.tree) (ap (λ n. length (part_tuples n split.tuples)) same ∙ counted (length (part_tuples r.slot split.tuples)) r.tree here.0)))

  list_without : (n : ℕ) (t : Tree) → is_list_of n t ≡ true → AllByRecursion IsData (items_or_none t) → IsData t
  list_without n (array ts) e h = array_without ts h
  list_without n nil e h = absurd (false≢true e)
  list_without n (int m) e h = absurd (false≢true e)
  list_without n (bulk b) e h = absurd (false≢true e)
  list_without n (simple s) e h = absurd (false≢true e)
  list_without n okay e h = absurd (false≢true e)
  list_without n (trees.map ps) e h = absurd (false≢true e)
  list_without n (attribute t ps) e h = absurd (false≢true e)
  list_without n (set ts) e h = absurd (false≢true e)
  list_without n (double s) e h = absurd (false≢true e)
  list_without n (boolean b) e h = absurd (false≢true e)
  list_without n (verbatim f s) e h = absurd (false≢true e)
  list_without n (big_number b) e h = absurd (false≢true e)
  list_without n (push k ts) e h = absurd (false≢true e)
  list_without n (server_error err) e h = absurd (false≢true e)

  each_list : (rs : List PartReply) → list_all fills rs ≡ true → ((s : ℕ) → AllByRecursion IsData (items_for rs s)) → AllByRecursion (λ (r : PartReply). IsData r.tree) rs
  each_list [] e h = tt
  each_list (r ∷ rs) e h =
      let here = all_parts fills r rs e in
      let own = subst (λ b. AllByRecursion IsData (cond b (items_or_none r.tree) [] ++ items_for rs r.slot)) (eq-eqb r.slot r.slot refl) (h r.slot) in (
        list_without (length (part_tuples r.slot split.tuples)) r.tree here.0 (all-halves IsData (items_or_none r.tree) (items_for rs r.slot) own).0,
        each_list rs here.1 (λ s. (all-halves IsData (cond (s == r.slot) (items_or_none r.tree) []) (items_for rs s) (h s)).1),
      )

  arrays_without : (rs : List PartReply) → IsDistinct nat_eq (map (λ (r : PartReply). r.slot) rs) → (reply : Tree) → combine_by CombineArrays split rs ≡ Some reply → IsData reply → AllByRecursion (λ (r : PartReply). IsData r.tree) rs
  arrays_without rs distinct reply e data_ = by (list_all fills rs) refl e
    where
      by : (b : Bool) → list_all fills rs ≡ b → cond b (Some (array_of (draw (map tuple_slot split.tuples) (items_for rs)))) None ≡ Some reply → AllByRecursion (λ (r : PartReply). IsData r.tree) rs
      by true all f =
          let same : array_of (draw (map tuple_slot split.tuples) (items_for rs)) ≡ reply = cc in
          each_list rs all
          (all_drawn IsData tuple_slot split.tuples (items_for rs) (slot_fits rs distinct all) (items_without (draw (map tuple_slot split.tuples) (items_for rs)) (subst IsData (sym same) data_)))
      by false all f = cc

-- ---- numbers, and OK

number_without : (t : Tree) (o : Option ℤ) (n : ℤ) → plus t o ≡ Some n → IsData t × ((m : ℤ) × (o ≡ Some m))
unfolding first_error
number_without (int k) None n e = cc
number_without (int k) (Some m) n e = (refl, (m, refl))
number_without nil o n e = cc
number_without (bulk b) o n e = cc
number_without (array ts) o n e = cc
number_without (simple s) o n e = cc
number_without okay o n e = cc
number_without (trees.map ps) o n e = cc
number_without (attribute t ps) o n e = cc
number_without (set ts) o n e = cc
number_without (double s) o n e = cc
number_without (boolean b) o n e = cc
number_without (verbatim f s) o n e = cc
number_without (big_number b) o n e = cc
number_without (push k ts) o n e = cc
number_without (server_error err) o n e = cc

numbers_without : (rs : List PartReply) (n : ℤ) → sum_of (trees_in rs) ≡ Some n → AllByRecursion (λ (r : PartReply). IsData r.tree) rs
numbers_without [] n e = tt
numbers_without (r ∷ rs) n e = let here = number_without r.tree (sum_of (trees_in rs)) n e in (here.0, numbers_without rs here.1.0 here.1.1)

okay_without : (t : Tree) → is_okay t ≡ true → IsData t
unfolding first_error
okay_without okay e = refl
okay_without nil e = absurd (false≢true e)
okay_without (int k) e = absurd (false≢true e)
okay_without (bulk b) e = absurd (false≢true e)
okay_without (array ts) e = absurd (false≢true e)
okay_without (simple s) e = absurd (false≢true e)
okay_without (trees.map ps) e = absurd (false≢true e)
okay_without (attribute t ps) e = absurd (false≢true e)
okay_without (set ts) e = absurd (false≢true e)
okay_without (double s) e = absurd (false≢true e)
okay_without (boolean b) e = absurd (false≢true e)
okay_without (verbatim f s) e = absurd (false≢true e)
okay_without (big_number b) e = absurd (false≢true e)
okay_without (push k ts) e = absurd (false≢true e)
okay_without (server_error err) e = absurd (false≢true e)

okays_without : (rs : List PartReply) → list_all is_okay (trees_in rs) ≡ true → AllByRecursion (λ (r : PartReply). IsData r.tree) rs
okays_without [] e = tt
okays_without (r ∷ rs) e = by (is_okay r.tree) refl e (λ f. okays_without rs f)
  where
    by : (b : Bool) → is_okay r.tree ≡ b → (b && list_all is_okay (trees_in rs)) ≡ true → (list_all is_okay (trees_in rs) ≡ true → AllByRecursion (λ (r : PartReply). IsData r.tree) rs) → IsData r.tree × AllByRecursion (λ (r : PartReply). IsData r.tree) rs
    by true f e ih = (okay_without r.tree f, ih e)
    by false f e ih = absurd (false≢true e)

-- ---- by the policy

pub parts_without : (split : Split) (rs : List PartReply) → IsDistinct nat_eq (map (λ (r : PartReply). r.slot) rs) → (reply : Tree) (c : ResponsePolicy) → combine_by c split rs ≡ Some reply → IsData reply → AllByRecursion (λ (r : PartReply). IsData r.tree) rs
parts_without split rs distinct reply CombineArrays e data_ = arrays_without split rs distinct reply e data_
parts_without split rs distinct reply (Aggregate Sum) e data_ = by (sum_of (trees_in rs)) refl e
  where
    by : (o : Option ℤ) → sum_of (trees_in rs) ≡ o → option_and_then as_int o ≡ Some reply → AllByRecursion (λ (r : PartReply). IsData r.tree) rs
    by None f e = cc
    by (Some n) f e = numbers_without rs n f
parts_without split rs distinct reply AllSucceeded e data_ = by (list_all is_okay (trees_in rs)) refl e
  where
    by : (b : Bool) → list_all is_okay (trees_in rs) ≡ b → cond b (Some okay) None ≡ Some reply → AllByRecursion (λ (r : PartReply). IsData r.tree) rs
    by true f e = okays_without rs f
    by false f e = cc
parts_without split rs distinct reply OneSucceeded e data_ = cc
parts_without split rs distinct reply FirstSucceededNonEmptyOrAllEmpty e data_ = cc
parts_without split rs distinct reply (AggregateLogical op) e data_ = cc
parts_without split rs distinct reply (Aggregate Min) e data_ = cc
parts_without split rs distinct reply Special e data_ = cc
parts_without split rs distinct reply CombineMaps e data_ = cc
