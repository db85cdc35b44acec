-- Maps of counts do not depend on the order of the replies.
use Rattle.std.specs.Cmp.Lexicographic.{slice_cmp, nat_list_cmp_total, bytes_decides}
use Rattle.std.specs.Ordering.{match_ordering, nat_cmp, ordering_reverse, is_eq}
use Rattle.std.specs.declared.cmp.Ordering.{Ordering}
use Rattle.std.specs.declared.cmp.Ordering.TheVariants.{Less, Equal, Greater}
use Rattle.std.proofs.Common.{◌≡◌, ℕ, ℤ, ◌+ℤ◌, true, List, [], ◌∷◌, ◌++◌, fold, option_map, refl, sym, ap, ◌∙◌, subst, arith}
use Rattle.std.proofs.lemmas.Int.{ints}
use Rattle.std.proofs.lemmas.Map.Text.{is_eq-slice_cmp}
use Rattle.resp_core.specs.Trees.{map as map_tree}
use Rattle.resp_core.specs.View.{pairs_of}
use Rattle.resp_args.specs.Convert.{traverse}
use Rattle.cluster_routing.specs.CombineLaws.{CountsInAnyOrder}
use Rattle.cluster_routing.specs.Lists.{concat}
use Rattle.cluster_routing.specs.Policies.{Counts, add_count, count_pair, counts_in, counts_tree, map_of_counts}
use Rattle.cluster_routing.proofs.AnyOrder.{OfNeighbours, in_any_order, read_swap, traverse_swap}

plus_again : (n m s : ℤ) → (n +ℤ (m +ℤ s)) ≡ (m +ℤ (n +ℤ s))
plus_again n m s = omega (arith, ints)

plus_turned : (n m : ℤ) → (n +ℤ m) ≡ (m +ℤ n)
plus_turned n m = omega (arith, ints)

-- ---- counts

Count : Type 0
Count = List ℕ × ℤ

abbrev key_cmp : List ℕ → List ℕ → Ordering
key_cmp k l = slice_cmp nat_cmp k l

reversed : (k l : List ℕ) (o : Ordering) → key_cmp l k ≡ o → key_cmp k l ≡ ordering_reverse o
reversed k l o e = nat_list_cmp_total.antisymm k l ∙ ap ordering_reverse e

same_key : (k l : List ℕ) → key_cmp k l ≡ Equal → k ≡ l
same_key k l e = (bytes_decides k l).0 (sym (is_eq-slice_cmp k l) ∙ ap is_eq e)

abbrev placed : Ordering → List ℕ × ℤ → List ℕ × ℤ → Counts → Counts
placed o c d ds = match_ordering o (c ∷ d ∷ ds) ((d.0, c.1 +ℤ d.1) ∷ ds) (d ∷ add_count c ds)

put : (c d : List ℕ × ℤ) (ds : Counts) (o : Ordering) → key_cmp c.0 d.0 ≡ o → add_count c (d ∷ ds) ≡ placed o c d ds
put c d ds o e = ap (λ r. placed r c d ds) e

-- a lower key and a higher one, in either order
low_high : (c d : List ℕ × ℤ) → key_cmp c.0 d.0 ≡ Less → (s : Counts) → add_count d (add_count c s) ≡ add_count c (add_count d s)
low_high c d l [] = put d c [] Greater (reversed d.0 c.0 Less l) ∙ sym (put c d [] Less l)
low_high c d l (e ∷ s) = by (key_cmp c.0 e.0) refl (key_cmp d.0 e.0) refl (low_high c d l s)
  where
    above : key_cmp d.0 c.0 ≡ Greater
    above = reversed d.0 c.0 Less l

    by : (o : Ordering) → key_cmp c.0 e.0 ≡ o → (p : Ordering) → key_cmp d.0 e.0 ≡ p → add_count d (add_count c s) ≡ add_count c (add_count d s) → add_count d (add_count c (e ∷ s)) ≡ add_count c (add_count d (e ∷ s))
    by Less f Less g ih =
        ap (add_count d) (put c e s Less f) ∙ put d c (e ∷ s) Greater above ∙ ap (λ z. c ∷ z) (put d e s Less g)
        ∙ sym (ap (add_count c) (put d e s Less g) ∙ put c d (e ∷ s) Less l)
    by Less f Equal g ih =
        ap (add_count d) (put c e s Less f) ∙ put d c (e ∷ s) Greater above ∙ ap (λ z. c ∷ z) (put d e s Equal g)
        ∙ sym (ap (add_count c) (put d e s Equal g) ∙ put c (e.0, d.1 +ℤ e.1) s Less f)
    by Less f Greater g ih =
        ap (add_count d) (put c e s Less f) ∙ put d c (e ∷ s) Greater above ∙ ap (λ z. c ∷ z) (put d e s Greater g)
        ∙ sym (ap (add_count c) (put d e s Greater g) ∙ put c e (add_count d s) Less f)
    by Equal f p g ih =
        let higher : key_cmp d.0 e.0 ≡ Greater = ap (λ k. key_cmp d.0 k) (sym (same_key c.0 e.0 f)) ∙ above in
        ap (add_count d) (put c e s Equal f) ∙ put d (e.0, c.1 +ℤ e.1) s Greater higher
        ∙ sym (ap (add_count c) (put d e s Greater higher) ∙ put c e (add_count d s) Equal f)
    by Greater f p g ih =
        let higher : key_cmp d.0 e.0 ≡ Greater = reversed d.0 e.0 Less (nat_list_cmp_total.trans e.0 c.0 d.0 (reversed e.0 c.0 Greater f) l) in
        ap (add_count d) (put c e s Greater f) ∙ put d e (add_count c s) Greater higher ∙ ap (λ z. e ∷ z) ih
        ∙ sym (ap (add_count c) (put d e s Greater higher) ∙ put c e (add_count d s) Greater f)

only_equal : (o : Ordering) → is_eq o ≡ true → o ≡ Equal
only_equal Less h = cc
only_equal Equal h = refl
only_equal Greater h = cc

itself : (k : List ℕ) → key_cmp k k ≡ Equal
itself k = only_equal (key_cmp k k) (is_eq-slice_cmp k k ∙ (bytes_decides k k).1 refl)

-- one key
one_key : (k : List ℕ) (n m : ℤ) (s : Counts) → add_count (k, m) (add_count (k, n) s) ≡ add_count (k, n) (add_count (k, m) s)
one_key k n m [] = put (k, m) (k, n) [] Equal (itself k) ∙ ap (λ x. (k, x) ∷ []) (plus_turned m n) ∙ sym (put (k, n) (k, m) [] Equal (itself k))
one_key k n m (e ∷ s) = by (key_cmp k e.0) refl (one_key k n m s)
  where
    by : (o : Ordering) → key_cmp k e.0 ≡ o → add_count (k, m) (add_count (k, n) s) ≡ add_count (k, n) (add_count (k, m) s) → add_count (k, m) (add_count (k, n) (e ∷ s)) ≡ add_count (k, n) (add_count (k, m) (e ∷ s))
    by Less f ih =
        ap (add_count (k, m)) (put (k, n) e s Less f) ∙ put (k, m) (k, n) (e ∷ s) Equal (itself k) ∙ ap (λ x. (k, x) ∷ e ∷ s) (plus_turned m n)
        ∙ sym (ap (add_count (k, n)) (put (k, m) e s Less f) ∙ put (k, n) (k, m) (e ∷ s) Equal (itself k))
    by Equal f ih =
        ap (add_count (k, m)) (put (k, n) e s Equal f) ∙ put (k, m) (e.0, n +ℤ e.1) s Equal f ∙ ap (λ x. (e.0, x) ∷ s) (plus_again m n e.1)
        ∙ sym (ap (add_count (k, n)) (put (k, m) e s Equal f) ∙ put (k, n) (e.0, m +ℤ e.1) s Equal f)
    by Greater f ih =
        ap (add_count (k, m)) (put (k, n) e s Greater f) ∙ put (k, m) e (add_count (k, n) s) Greater f ∙ ap (λ z. e ∷ z) ih
        ∙ sym (ap (add_count (k, n)) (put (k, m) e s Greater f) ∙ put (k, n) e (add_count (k, m) s) Greater f)

add_swap : (c d : List ℕ × ℤ) (s : Counts) → add_count d (add_count c s) ≡ add_count c (add_count d s)
add_swap c d s = by (key_cmp c.0 d.0) refl
  where
    by : (o : Ordering) → key_cmp c.0 d.0 ≡ o → add_count d (add_count c s) ≡ add_count c (add_count d s)
    by Less e = low_high c d e s
    by Equal e = subst (λ k. add_count (k, d.1) (add_count (c.0, c.1) s) ≡ add_count (c.0, c.1) (add_count (k, d.1) s)) (same_key c.0 d.0 e) (one_key c.0 c.1 d.1 s)
    by Greater e = sym (low_high d c (reversed d.0 c.0 Greater e) s)

abbrev added : Counts → Counts → Counts
added s cs = fold (λ sums c. add_count c sums) s cs

added-append : (s cs ds : Counts) → added s (cs ++ ds) ≡ added (added s cs) ds
added-append s [] ds = refl
added-append s (c ∷ cs) ds = added-append (add_count c s) cs ds

add_past : (c : List ℕ × ℤ) (s ds : Counts) → add_count c (added s ds) ≡ added (add_count c s) ds
add_past c s [] = refl
add_past c s (d ∷ ds) = add_past c (add_count d s) ds ∙ ap (λ z. added z ds) (add_swap d c s)

added_turned : (s cs ds : Counts) → added (added s cs) ds ≡ added (added s ds) cs
added_turned s [] ds = refl
added_turned s (c ∷ cs) ds = added_turned (add_count c s) cs ds ∙ ap (λ z. added z cs) (sym (add_past c s ds))

counts_swap : (s : Counts) (before behind : List Counts) (a b : Counts) → added s (concat (before ++ a ∷ b ∷ behind)) ≡ added s (concat (before ++ b ∷ a ∷ behind))
counts_swap s [] behind a b =
    added-append s a (b ++ concat behind) ∙ added-append (added s a) b (concat behind) ∙ ap (λ z. added z (concat behind)) (added_turned s a b)
    ∙ sym (added-append s b (a ++ concat behind) ∙ added-append (added s b) a (concat behind))
counts_swap s (x ∷ before) behind a b =
    added-append s x (concat (before ++ a ∷ b ∷ behind)) ∙ counts_swap (added s x) before behind a b ∙ sym (added-append s x (concat (before ++ b ∷ a ∷ behind)))

-- ---- the law

pub counts_of_neighbours : OfNeighbours counts_tree
counts_of_neighbours before behind t u = read_swap (λ lists. map_of_counts (concat lists)) (λ before behind a b. ap (λ sums. option_map (λ ps. map_tree (pairs_of ps)) (traverse count_pair sums)) (counts_swap [] before behind a b)) (traverse_swap counts_in before behind t u)

pub counts_in_any_order : CountsInAnyOrder
counts_in_any_order replies others p = in_any_order counts_tree counts_of_neighbours replies others p
