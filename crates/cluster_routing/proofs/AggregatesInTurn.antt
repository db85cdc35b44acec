-- Sums and least numbers do not depend on the order of the replies.
use Rattle.std.specs.Prelude.{int_le, option_and_then}
use Rattle.std.proofs.Common.{◌≡◌, ℤ, ◌+ℤ◌, Bool, true, false, cond, List, [], ◌∷◌, ◌++◌, Option, Some, None, option_map, refl, sym, ap, ◌∙◌, arith}
use Rattle.std.proofs.lemmas.Int.{ints}
use Rattle.resp_core.specs.Trees.{Tree, int}
use Rattle.cluster_routing.specs.Combine.{as_int, plus, sum_of, sum_tree}
use Rattle.cluster_routing.specs.CombineLaws.{AggregatesInAnyOrder}
use Rattle.cluster_routing.specs.Policies.{aggregate_tree, int_in, least, least_of, min_tree}
use Rattle.cluster_routing.specs.declared.policy.AggregateOp.{AggregateOp}
use Rattle.cluster_routing.specs.declared.policy.AggregateOp.TheVariants.{Min, Sum}
use Rattle.cluster_routing.proofs.AnyOrder.{OfNeighbours, in_any_order, read_swap, traverse_swap}
use Rattle.cluster_routing.proofs.Totals.{plus_in}

-- ---- sums

plus_again : (n m s : ℤ) → (n +ℤ (m +ℤ s)) ≡ (m +ℤ (n +ℤ s))
plus_again n m s = omega (arith, ints)

abbrev plus_by : Option ℤ → Option ℤ → Option ℤ
plus_by o sum = option_and_then (λ n. option_map (λ m. n +ℤ m) sum) o

both_plus : (n m sum : Option ℤ) → plus_by n (plus_by m sum) ≡ plus_by m (plus_by n sum)
both_plus None None sum = refl
both_plus None (Some m) sum = refl
both_plus (Some n) None sum = refl
both_plus (Some n) (Some m) None = refl
both_plus (Some n) (Some m) (Some s) = ap Some (plus_again n m s)

plus_swap : (t u : Tree) (sum : Option ℤ) → plus t (plus u sum) ≡ plus u (plus t sum)
plus_swap t u sum = plus_in t (plus u sum) ∙ ap (plus_by (int_in t)) (plus_in u sum) ∙ both_plus (int_in t) (int_in u) sum ∙ sym (ap (plus_by (int_in u)) (plus_in t sum)) ∙ sym (plus_in u (plus t sum))

sum_swap : (before behind : List Tree) (t u : Tree) → sum_of (before ++ t ∷ u ∷ behind) ≡ sum_of (before ++ u ∷ t ∷ behind)
sum_swap [] behind t u = plus_swap t u (sum_of behind)
sum_swap (x ∷ before) behind t u = ap (plus x) (sum_swap before behind t u)

-- ---- least numbers

abbrev lesser : ℤ → ℤ → ℤ
lesser n m = cond (int_le n m) n m

lesser_turned : (n m : ℤ) → lesser n m ≡ lesser m n
lesser_turned n m = by (int_le n m) refl (int_le m n) refl
  where
    by : (b : Bool) → int_le n m ≡ b → (c : Bool) → int_le m n ≡ c → cond b n m ≡ cond c m n
    by true e true f = omega (arith, ints)
    by true e false f = refl
    by false e true f = refl
    by false e false f = omega (arith, ints)

lesser_again : (n a b : ℤ) → lesser (lesser n a) b ≡ lesser (lesser n b) a
lesser_again n a b = by (int_le n a) refl (int_le n b) refl (int_le a b) refl (int_le b a) refl
  where
    by : (p : Bool) → int_le n a ≡ p → (q : Bool) → int_le n b ≡ q → (r : Bool) → int_le a b ≡ r → (s : Bool) → int_le b a ≡ s → lesser (cond p n a) b ≡ lesser (cond q n b) a
    by true e true f r g s h = ap (λ x. cond x n b) f ∙ sym (ap (λ x. cond x n a) e)
    by true e false f r g true h = ap (λ x. cond x n b) f ∙ sym (ap (λ x. cond x b a) h)
    by true e false f r g false h = omega (arith, ints)
    by false e true f true g s h = ap (λ x. cond x a b) g ∙ sym (ap (λ x. cond x n a) e)
    by false e true f false g s h = omega (arith, ints)
    by false e false f r g s h = lesser_turned a b

least_swap : (n : ℤ) (before behind : List ℤ) (a b : ℤ) → least n (before ++ a ∷ b ∷ behind) ≡ least n (before ++ b ∷ a ∷ behind)
least_swap n [] behind a b = ap (λ m. least m behind) (lesser_again n a b)
least_swap n (x ∷ before) behind a b = least_swap (lesser n x) before behind a b

least_of_swap : (before behind : List ℤ) (a b : ℤ) → least_of (before ++ a ∷ b ∷ behind) ≡ least_of (before ++ b ∷ a ∷ behind)
least_of_swap [] behind a b = ap (λ m. Some (least m behind)) (lesser_turned a b)
least_of_swap (x ∷ before) behind a b = ap Some (least_swap x before behind a b)

-- ---- the law

pub sums_of_neighbours : OfNeighbours sum_tree
sums_of_neighbours before behind t u = ap (option_and_then as_int) (sum_swap before behind t u)

least_of_neighbours : OfNeighbours min_tree
least_of_neighbours before behind t u = ap (option_map (λ n. int n)) (read_swap least_of least_of_swap (traverse_swap int_in before behind t u))

pub aggregates_of_neighbours : (op : AggregateOp) → OfNeighbours (aggregate_tree op)
aggregates_of_neighbours Sum = sums_of_neighbours
aggregates_of_neighbours Min = least_of_neighbours

pub aggregates_in_any_order : AggregatesInAnyOrder
aggregates_in_any_order op replies others p = in_any_order (aggregate_tree op) (aggregates_of_neighbours op) replies others p
