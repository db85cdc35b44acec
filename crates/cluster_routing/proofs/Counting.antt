-- Counts added under their keys.
use Rattle.std.specs.Prelude.{ℤ, pos, neg_ℤ, ◌+ℤ◌, ◌≤ℤ◌, ◌^◌, unwrap_or, fold}
use Rattle.std.specs.BTreeMap.{insert_entry, is_at}
use Rattle.std.specs.Cmp.{IsTotalOrder}
use Rattle.std.specs.Cmp.Lexicographic.{slice_cmp}
use Rattle.std.specs.Int.{w128}
use Rattle.std.specs.List.{AllByRecursion}
use Rattle.std.specs.List.Sorted.{IsStrictlySortedBy}
use Rattle.std.specs.Map.{keys_of, lookup}
use Rattle.std.specs.Ordering.{is_eq, match_ordering, nat_cmp}
use Rattle.std.specs.declared.cmp.Ordering.{Ordering}
use Rattle.std.specs.declared.cmp.Ordering.TheVariants.{Less, Equal, Greater}
use Rattle.std.proofs.Common.{◌≡◌, ℕ, ◌+◌, ◌≤◌, Bool, true, false, cond, List, [], ◌∷◌, ◌++◌, map, refl, sym, ap, ◌∙◌, arith, append_assoc, Vec, Global, Option, Some, None, option_map, option_and_then, to_z, of_z, w64, SFits, if◌then◌else◌}
use Rattle.std.proofs.lemmas.Cmp.{nat_list_cmp_total, on_total}
use Rattle.std.proofs.lemmas.Int.{ints}
use Rattle.std.proofs.lemmas.Map.{lookup-none}
use Rattle.std.proofs.lemmas.Map.Entries.{none_below_head}
use Rattle.std.proofs.Common.{rules}
use Rattle.resp_core.specs.Trees.{Tree, map as map_tree}
use Rattle.resp_core.specs.View.{pair_view, pairs_of, view}
use Rattle.resp_core.specs.declared.value.Value.{Value, Map, the_lemmas}
use Rattle.resp_args.specs.Convert.{traverse}
use Rattle.cluster_routing.specs.Counted.{shown_count, shown_counts, AreWithin}
use Rattle.cluster_routing.specs.Lists.{concat}
use Rattle.cluster_routing.specs.Policies.{Counts, add_count, count_pair, counts_in, counts_tree, map_of_counts}

abbrev pub Key : Type 0
Key = Vec ℕ Global

abbrev pub key_cmp : Key → Key → Ordering
key_cmp a b = slice_cmp nat_cmp a.items b.items

keys_total : IsTotalOrder key_cmp
keys_total = on_total (λ (k : Key). k.items) nat_list_cmp_total

-- ---- into a map

absent : (k : Key) (e : Key × ℤ) (es : List (Key × ℤ)) → IsStrictlySortedBy key_cmp (keys_of (e ∷ es)) → key_cmp k e.0 ≡ Less → lookup (is_at (key_cmp k)) es ≡ None
absent k e es sorted below = lookup-none (is_at (key_cmp k)) es (behind (none_below_head keys_total k e es sorted below))
  where
    behind : AllByRecursion (λ (f : Key × ℤ). is_at (key_cmp k) f.0 ≡ false) (e ∷ es) → AllByRecursion (λ (f : Key × ℤ). is_at (key_cmp k) f.0 ≡ false) es
    behind h = h.1

abbrev sum_at : Key → List (Key × ℤ) → ℤ
sum_at k es = unwrap_or (lookup (is_at (key_cmp k)) es) (pos 0)

tail_sorted : (e : Key × ℤ) (es : List (Key × ℤ)) → IsStrictlySortedBy key_cmp (keys_of (e ∷ es)) → IsStrictlySortedBy key_cmp (keys_of es)
unfolding IsStrictlySortedBy
tail_sorted e es h = h.1

pub added : (es : List (Key × ℤ)) (k : Key) (n s : ℤ) → IsStrictlySortedBy key_cmp (keys_of es) → s ≡ sum_at k es +ℤ n → shown_counts (insert_entry key_cmp es k s) ≡ add_count (k.items, n) (shown_counts es)
added [] k n s sorted h = ap (λ m. (k.items, m) ∷ []) (let t : s ≡ n = omega (arith, ints, h) in t)
added (e ∷ es) k n s sorted h = by_order (key_cmp k e.0) refl h (λ g. added es k n s (tail_sorted e es sorted) g)
  where
    by_order : (o : Ordering) → o ≡ key_cmp k e.0 → s ≡ unwrap_or (cond (is_eq o) (Some e.1) (lookup (is_at (key_cmp k)) es)) (pos 0) +ℤ n
        → (s ≡ sum_at k es +ℤ n → shown_counts (insert_entry key_cmp es k s) ≡ add_count (k.items, n) (shown_counts es))
        → shown_counts (match_ordering o ((k, s) ∷ e ∷ es) ((e.0, s) ∷ es) (e ∷ insert_entry key_cmp es k s))
        ≡ match_ordering o ((k.items, n) ∷ shown_counts (e ∷ es)) ((e.0.items, n +ℤ e.1) ∷ shown_counts es) (shown_count e ∷ add_count (k.items, n) (shown_counts es))
    by_order Less q g behind =
        let none : s ≡ pos 0 +ℤ n = g ∙ ap (λ o. unwrap_or o (pos 0) +ℤ n) (absent k e es sorted (sym q)) in
        let same : s ≡ n = omega (arith, ints, none) in
        ap (λ m. (k.items, m) ∷ shown_counts (e ∷ es)) same
    by_order Equal q g behind =
        let same : s ≡ n +ℤ e.1 = omega (arith, ints, g) in
        ap (λ m. (e.0.items, m) ∷ shown_counts es) same
    by_order Greater q g behind = ap (λ cs. shown_count e ∷ cs) (behind g)

-- ---- bounds

pub sum_within : (bound : ℕ) (test : Key → Bool) (es : List (Key × ℤ)) (s : ℤ) → AreWithin bound (shown_counts es) → s ≡ unwrap_or (lookup test es) (pos 0) → (neg_ℤ (pos bound) ≤ℤ s) × (s ≤ℤ pos bound)
sum_within bound test [] s h q = (omega (arith, ints, q), omega (arith, ints, q))
sum_within bound test (e ∷ es) s h q = by_test (test e.0) q (λ g. sum_within bound test es s h.1 g)
  where
    by_test : (b : Bool) → s ≡ unwrap_or (cond b (Some e.1) (lookup test es)) (pos 0) → (s ≡ unwrap_or (lookup test es) (pos 0) → (neg_ℤ (pos bound) ≤ℤ s) × (s ≤ℤ pos bound)) → (neg_ℤ (pos bound) ≤ℤ s) × (s ≤ℤ pos bound)
    by_test true g behind = (omega (arith, ints, g, h.0.0), omega (arith, ints, g, h.0.1))
    by_test false g behind = behind g

pub wider : (a b : ℕ) (cs : Counts) → a ≤ b → AreWithin a cs → AreWithin b cs
wider a b [] h w = tt
wider a b (c ∷ cs) h w = ((omega (arith, ints, h, w.0.0), omega (arith, ints, h, w.0.1)), wider a b cs h w.1)

pub within_more : (bound : ℕ) (key : List ℕ) (n : ℤ) (cs : Counts) → neg_ℤ (pos (2 ^ 63)) ≤ℤ n → n ≤ℤ pos (2 ^ 63) → AreWithin bound cs → AreWithin (bound + 2 ^ 63) (add_count (key, n) cs)
within_more bound key n [] low high w = ((omega (arith, ints, low), omega (arith, ints, high)), tt)
within_more bound key n (d ∷ ds) low high w = by_order (slice_cmp nat_cmp key d.0) (within_more bound key n ds low high w.1)
  where
    more : bound ≤ bound + 2 ^ 63
    more = omega arith

    by_order : (o : Ordering) → AreWithin (bound + 2 ^ 63) (add_count (key, n) ds) → AreWithin (bound + 2 ^ 63) (match_ordering o ((key, n) ∷ d ∷ ds) ((d.0, n +ℤ d.1) ∷ ds) (d ∷ add_count (key, n) ds))
    by_order Less behind = ((omega (arith, ints, low), omega (arith, ints, high)), wider bound (bound + 2 ^ 63) (d ∷ ds) more w)
    by_order Equal behind = ((omega (arith, ints, low, w.0.0), omega (arith, ints, high, w.0.1)), wider bound (bound + 2 ^ 63) ds more w.1)
    by_order Greater behind = ((omega (arith, ints, w.0.0), omega (arith, ints, w.0.1)), behind)

pub sum_fits : (s f n : ℤ) → (neg_ℤ (pos (2 ^ 126)) ≤ℤ s) × (s ≤ℤ pos (2 ^ 126)) → f ≡ to_z w64 (of_z w64 n) → SFits w128 (to_z w128 (of_z w128 s) +ℤ to_z w128 (of_z w128 f))
sum_fits s f n b e = omega (arith, ints, b.0, b.1, e)

pub sum_is : (s f n : ℤ) → (neg_ℤ (pos (2 ^ 126)) ≤ℤ s) × (s ≤ℤ pos (2 ^ 126)) → f ≡ to_z w64 (of_z w64 n) → SFits w64 n → to_z w128 (of_z w128 (to_z w128 (of_z w128 s) +ℤ to_z w128 (of_z w128 f))) ≡ s +ℤ n
sum_is s f n b e fits = omega (arith, ints, b.0, b.1, e, fits)

-- ---- of several replies

pub joined : (olds news : Counts) (vs rest : List Value) (v : Value) (fits : Bool) → vs ≡ v ∷ rest → (if fits then Some news else None) ≡ option_map (λ more. olds ++ more) (counts_in (view v)) → fits ≡ true
    → option_map (λ lists. olds ++ concat lists) (traverse counts_in (map view vs)) ≡ option_map (λ lists. news ++ concat lists) (traverse counts_in (map view rest))
joined olds news vs rest v fits d e f =
    ap (λ us. option_map (λ lists. olds ++ concat lists) (traverse counts_in (map view us))) d
    ∙ by (counts_in (view v)) (traverse counts_in (map view rest)) (ap (λ b. if b then Some news else None) (sym f) ∙ e)
  where
    by : (q : Option Counts) (more : Option (List Counts)) → Some news ≡ option_map (λ more. olds ++ more) q → option_map (λ lists. olds ++ concat lists) (option_and_then (λ y. option_map (λ ys. y ∷ ys) more) q) ≡ option_map (λ lists. news ++ concat lists) more
    by None more k = cc
    by (Some y) None k = refl
    by (Some y) (Some ys) k =
        let same : news ≡ olds ++ y = cc in
        ap (λ cs. Some cs) (sym (append_assoc olds y (concat ys)) ∙ ap (λ cs. cs ++ concat ys) (sym same))

pub unjoined : (olds news : Counts) (vs rest : List Value) (v : Value) (fits : Bool) → vs ≡ v ∷ rest → (if fits then Some news else None) ≡ option_map (λ more. olds ++ more) (counts_in (view v)) → fits ≡ false
    → option_map (λ lists. olds ++ concat lists) (traverse counts_in (map view vs)) ≡ None
unjoined olds news vs rest v fits d e f =
    ap (λ us. option_map (λ lists. olds ++ concat lists) (traverse counts_in (map view us))) d
    ∙ by (counts_in (view v)) (ap (λ b. if b then Some news else None) (sym f) ∙ e)
  where
    by : (q : Option Counts) → None ≡ option_map (λ more. olds ++ more) q → option_map (λ lists. olds ++ concat lists) (option_and_then (λ y. option_map (λ ys. y ∷ ys) (traverse counts_in (map view rest))) q) ≡ None
    by None k = refl
    by (Some y) k = cc

-- ---- as a map

pub map_view : (v : Vec (Value × Value) Global) → view (Map v) ≡ map_tree (pairs_of (map pair_view v.items))
map_view v = search (rules, the_lemmas)

abbrev pub as_map : Vec (Value × Value) Global → Tree
as_map v = map_tree (pairs_of (map pair_view v.items))

pub made : (ts : List Tree) (counts sums : Counts) (o : Option (Vec (Value × Value) Global)) → Some counts ≡ option_map (λ lists. concat lists) (traverse counts_in ts) → sums ≡ fold (λ sums c. add_count c sums) [] counts
    → option_map (λ v. map pair_view v.items) o ≡ traverse count_pair sums → option_map as_map o ≡ counts_tree ts
made ts counts sums o e f g =
    within o
    ∙ ap (option_map (λ ps. map_tree (pairs_of ps))) (g ∙ ap (traverse count_pair) f)
    ∙ by (traverse counts_in ts) e
  where
    within : (p : Option (Vec (Value × Value) Global)) → option_map as_map p ≡ option_map (λ ps. map_tree (pairs_of ps)) (option_map (λ v. map pair_view v.items) p)
    within None = refl
    within (Some v) = refl

    by : (lists : Option (List Counts)) → Some counts ≡ option_map (λ ls. concat ls) lists → map_of_counts counts ≡ option_and_then (λ ls. map_of_counts (concat ls)) lists
    by None d = cc
    by (Some ls) d = let same : counts ≡ concat ls = cc in ap map_of_counts same

pub unmade : (ts : List Tree) → None ≡ option_map (λ lists. concat lists) (traverse counts_in ts) → None ≡ counts_tree ts
unmade ts e = by (traverse counts_in ts) e
  where
    by : (lists : Option (List Counts)) → None ≡ option_map (λ ls. concat ls) lists → None ≡ option_and_then (λ ls. map_of_counts (concat ls)) lists
    by None d = refl
    by (Some ls) d = cc
