-- Sums of integers, one more at a time.
use Rattle.std.specs.Prelude.{ℤ, pos, ◌+ℤ◌, ◌≤ℤ◌, neg_ℤ, ◌*◌, ◌^◌}
use Rattle.std.proofs.Common.{◌≡◌, ℕ, suc, ◌+◌, ◌<◌, List, ◌∷◌, length, map, drop, refl, sym, ap, ◌∙◌, arith, add-one, drop-cons, get_or, Option, Some, None, option_map, option_and_then, to_z, of_z, w64}
use Rattle.std.specs.Int.{w128}
use Rattle.std.proofs.lemmas.Int.{ints}
use Rattle.resp_core.specs.Trees.{Tree, nil, int, bulk, array, simple, okay, set, attribute, double, boolean, verbatim, big_number, push, server_error}
use Rattle.resp_core.specs.Trees as tree_of
use Rattle.resp_core.specs.View.{view}
use Rattle.resp_core.specs.declared.value.Value.{Value}
use Rattle.cluster_routing.specs.Combine.{plus, sum_of}
use Rattle.cluster_routing.specs.Policies.{int_in}

pub plus_in : (t : Tree) (o : Option ℤ) → plus t o ≡ option_and_then (λ n. option_map (λ m. n +ℤ m) o) (int_in t)
plus_in (int n) o = refl
plus_in nil o = refl
plus_in (bulk b) o = refl
plus_in (array ts) o = refl
plus_in (simple s) o = refl
plus_in okay o = refl
plus_in (tree_of.map ps) o = refl
plus_in (attribute t ps) o = refl
plus_in (set ts) o = refl
plus_in (double s) o = refl
plus_in (boolean b) o = refl
plus_in (verbatim f s) o = refl
plus_in (big_number b) o = refl
plus_in (push k ts) o = refl
plus_in (server_error e) o = refl

in_turn : (s n r : ℤ) (o : Option ℤ) → r ≡ s +ℤ n → option_map (λ m. s +ℤ m) (option_map (λ m. n +ℤ m) o) ≡ option_map (λ m. r +ℤ m) o
in_turn s n r None e = refl
in_turn s n r (Some m) e = ap (λ (k : ℤ). Some k) (omega (arith, ints, e))

at : (vs : List Value) (i : ℕ) (v : Value) → i < length vs → v ≡ get_or vs i v → drop i vs ≡ v ∷ drop (i + 1) vs
at vs i v h e = drop-cons vs i v h ∙ ap (λ w. w ∷ drop (suc i) vs) (sym e) ∙ ap (λ k. v ∷ drop k vs) (sym (add-one i))

pub total_step : (vs : List Value) (i : ℕ) (v : Value) (s n r : ℤ) → i < length vs → v ≡ get_or vs i v → Some n ≡ int_in (view v) → r ≡ s +ℤ n
    → option_map (λ m. s +ℤ m) (sum_of (map view (drop i vs))) ≡ option_map (λ m. r +ℤ m) (sum_of (map view (drop (i + 1) vs)))
total_step vs i v s n r h e k f =
    let rest : List Tree = map view (drop (i + 1) vs) in
    ap (λ ys. option_map (λ m. s +ℤ m) (sum_of (map view ys))) (at vs i v h e)
    ∙ ap (option_map (λ m. s +ℤ m)) (plus_in (view v) (sum_of rest) ∙ ap (option_and_then (λ n. option_map (λ m. n +ℤ m) (sum_of rest))) (sym k))
    ∙ in_turn s n r (sum_of rest) f

pub wide : (s f n : ℤ) (k : ℕ) → neg_ℤ (pos (k * 2 ^ 63)) ≤ℤ s → s ≤ℤ pos (k * 2 ^ 63) → k < 2 ^ 64 → f ≡ to_z w64 (of_z w64 n) → to_z w128 (of_z w128 (s +ℤ to_z w128 (of_z w128 f))) ≡ s +ℤ f
wide s f n k low high h e = omega (arith, ints)

pub low_step : (s f n r : ℤ) (k : ℕ) → neg_ℤ (pos (k * 2 ^ 63)) ≤ℤ s → f ≡ to_z w64 (of_z w64 n) → r ≡ s +ℤ f → neg_ℤ (pos ((k + 1) * 2 ^ 63)) ≤ℤ r
low_step s f n r k low e d = omega (arith, ints)

pub high_step : (s f n r : ℤ) (k : ℕ) → s ≤ℤ pos (k * 2 ^ 63) → f ≡ to_z w64 (of_z w64 n) → r ≡ s +ℤ f → r ≤ℤ pos ((k + 1) * 2 ^ 63)
high_step s f n r k high e d = omega (arith, ints)
