-- Texts that are written, and lists of trees.
use Rattle.std.proofs.Common.{◌≡◌, ℕ, suc, ◌+◌, ◌<◌, ◌≤◌, Bool, true, false, ◌&&◌, List, [], ◌∷◌, ◌++◌, length, map, get_or, take, drop, add-one, drop-cons, Result, Ok, Err, refl, sym, ap, ap₂, ◌∙◌, append_assoc, arith}
use Rattle.std.proofs.Math.Seq.{take-suc}
use Rattle.std.proofs.lemmas.List.{drop_all, map-append, append-nil, length-append}
use Rattle.std.proofs.lemmas.List.Folds.{list_all-append}
use Rattle.std.specs.List.{list_all}
use Rattle.resp_core.specs.Printed.{joined, after_code}
use Rattle.std.proofs.lemmas.Str.{is_utf8-from_IsUtf8}
use Rattle.std.specs.Str.{is_utf8, IsUtf8}
use Rattle.resp_core.specs.declared.value.Value.{Value}
use Rattle.resp_core.specs.declared.value.write.Protocol.{Protocol}
use Rattle.resp_core.specs.Trees.{ErrorText, Tree, attribute, no_trees, tree, Pairs, no_pairs, pair}
use Rattle.resp_core.specs.View.{view, trees_view, pairs_view, trees_of, pairs_of, pair_view}
use Rattle.resp_core.specs.Written.{Appends, count, pair_count, written, written_all, written_pairs, fits, fits_in, fits_all, fits_pairs, fits_beside, is_few, space, spaced, one_line, has_no_end, beside, is_inner}
use Rattle.resp_core.specs.Reading.{line_at}

pub texts_are_utf8 : (bs : List ℕ) → IsUtf8 bs → is_utf8 bs ≡ true
texts_are_utf8 bs h = is_utf8-from_IsUtf8 bs h

pub counts : (vs : List Value) → length vs ≡ count (trees_view vs)
counts [] = refl
counts (v ∷ vs) = ap (λ (n : ℕ). suc n) (counts vs)

pub pair_counts : (vs : List (Value × Value)) → length vs ≡ pair_count (pairs_view vs)
pair_counts [] = refl
pair_counts (v ∷ vs) = ap (λ (n : ℕ). suc n) (pair_counts vs)

-- a write behind another, which went well
pub appends : {X E : Type 0} (r : Result X E) (old mid new head tail : List ℕ) → mid ≡ old ++ head → Appends mid new tail r → Appends old new (head ++ tail) r
appends (Ok x) old mid new head tail h k = k ∙ rw h (append_assoc old head tail)
appends (Err e) old mid new head tail h k = (head ++ k.0, k.1 ∙ rw h (append_assoc old head k.0))

-- one list behind another
written_all-append : (p : Protocol) (xs ys : List Tree) → written_all p (trees_of (xs ++ ys)) ≡ written_all p (trees_of xs) ++ written_all p (trees_of ys)
unfolding written
written_all-append p [] ys = refl
written_all-append p (x ∷ xs) ys = rw (written_all-append p xs ys) (sym (append_assoc (written p x) (written_all p (trees_of xs)) (written_all p (trees_of ys))))

one_tree : (p : Protocol) (t : Tree) → written_all p (tree t no_trees) ≡ written p t
unfolding written
one_tree p t = append-nil (written p t)

one_pair : (p : Protocol) (k v : Tree) → written_pairs p (pair k v no_pairs) ≡ written p k ++ written p v
unfolding written
one_pair p k v = ap (λ (l : List ℕ). written p k ++ l) (append-nil (written p v))

written_pairs-append : (p : Protocol) (xs ys : List (Tree × Tree)) → written_pairs p (pairs_of (xs ++ ys)) ≡ written_pairs p (pairs_of xs) ++ written_pairs p (pairs_of ys)
unfolding written
written_pairs-append p [] ys = refl
written_pairs-append p (x ∷ xs) ys =
    rw (written_pairs-append p xs ys) (sym (ap (λ (l : List ℕ). l) (append_assoc (written p x.0) (written p x.1 ++ written_pairs p (pairs_of xs)) (written_pairs p (pairs_of ys))
    ∙ ap (λ (l : List ℕ). written p x.0 ++ l) (append_assoc (written p x.1) (written_pairs p (pairs_of xs)) (written_pairs p (pairs_of ys))))))

taken : {A : Type 0} (vs : List A) (i : ℕ) (v : A) → i < length vs → v ≡ get_or vs i v → take (i + 1) vs ≡ take i vs ++ v ∷ []
taken vs i v lt is = ap (λ (k : ℕ). take k vs) (add-one i) ∙ take-suc vs i v lt ∙ ap (λ (x : _). take i vs ++ x ∷ []) (sym is)

pub items_next : (p : Protocol) (vs : List Value) (i : ℕ) (v : Value) (old mid new : List ℕ) → i < length vs → v ≡ get_or vs i v → mid ≡ old ++ written_all p (trees_view (take i vs)) → new ≡ mid ++ written p (view v)
    → new ≡ old ++ written_all p (trees_view (take (i + 1) vs))
items_next p vs i v old mid new lt is sofar more =
    let all : written_all p (trees_view (take (i + 1) vs)) ≡ written_all p (trees_view (take i vs)) ++ written p (view v) =
    ap (λ (l : List Value). written_all p (trees_view l)) (taken vs i v lt is)
    ∙ ap (λ (l : List Tree). written_all p (trees_of l)) (map-append view (take i vs) (v ∷ []))
    ∙ written_all-append p (map view (take i vs)) (view v ∷ [])
    ∙ ap (λ (l : List ℕ). written_all p (trees_view (take i vs)) ++ l) (one_tree p (view v)) in
    more ∙ rw sofar (append_assoc old (written_all p (trees_view (take i vs))) (written p (view v)) ∙ ap (λ (l : List ℕ). old ++ l) (sym all))

pub pairs_next : (p : Protocol) (vs : List (Value × Value)) (i : ℕ) (v : Value × Value) (old mid key new : List ℕ) → i < length vs → v ≡ get_or vs i v → mid ≡ old ++ written_pairs p (pairs_view (take i vs))
    → key ≡ mid ++ written p (view v.0) → new ≡ key ++ written p (view v.1)
    → new ≡ old ++ written_pairs p (pairs_view (take (i + 1) vs))
pairs_next p vs i v old mid key new lt is sofar first second =
    let all : written_pairs p (pairs_view (take (i + 1) vs)) ≡ written_pairs p (pairs_view (take i vs)) ++ (written p (view v.0) ++ written p (view v.1)) =
    ap (λ (l : List (Value × Value)). written_pairs p (pairs_view l)) (taken vs i v lt is)
    ∙ ap (λ (l : List (Tree × Tree)). written_pairs p (pairs_of l)) (map-append pair_view (take i vs) (v ∷ []))
    ∙ written_pairs-append p (map pair_view (take i vs)) (pair_view v ∷ [])
    ∙ ap (λ (l : List ℕ). written_pairs p (pairs_view (take i vs)) ++ l) (one_pair p (view v.0) (view v.1)) in
    second ∙ rw (first, sofar) (append_assoc (old ++ written_pairs p (pairs_view (take i vs))) (written p (view v.0)) (written p (view v.1))
    ∙ append_assoc old (written_pairs p (pairs_view (take i vs))) (written p (view v.0) ++ written p (view v.1)) ∙ ap (λ (l : List ℕ). old ++ l) (sym all))

pub spaced_next : (bs : List ℕ) (i b : ℕ) (old mid new : List ℕ) → i < length bs → b ≡ get_or bs i b → mid ≡ old ++ spaced (take i bs) → new ≡ mid ++ space b ∷ [] → new ≡ old ++ spaced (take (i + 1) bs)
spaced_next bs i b old mid new lt is sofar more =
    let all : spaced (take (i + 1) bs) ≡ spaced (take i bs) ++ space b ∷ [] = ap spaced (taken bs i b lt is) ∙ map-append space (take i bs) (b ∷ []) in
    more ∙ rw sofar (append_assoc old (spaced (take i bs)) (space b ∷ []) ∙ ap (λ (l : List ℕ). old ++ l) (sym all))

-- ---- what is left of a list

here : {A : Type 0} (vs : List A) (i : ℕ) (v : A) → i < length vs → v ≡ get_or vs i v → drop i vs ≡ v ∷ drop (i + 1) vs
here vs i v lt is = drop-cons vs i v lt ∙ ap₂ (λ x (k : ℕ). x ∷ drop k vs) (sym is) (sym (add-one i))

pub fits_next : (p : Protocol) (levels : ℕ) (vs : List Value) (i : ℕ) (v : Value) (b : Bool) → i < length vs → v ≡ get_or vs i v → b ≡ fits p levels (view v)
    → fits_all p levels (trees_view (drop i vs)) ≡ (b && fits_all p levels (trees_view (drop (i + 1) vs)))
unfolding fits_in
fits_next p levels vs i v b lt is e =
    ap (λ (l : List Value). fits_all p levels (trees_view l)) (here vs i v lt is) ∙ ap (λ (c : Bool). c && fits_all p levels (trees_view (drop (i + 1) vs))) (sym e)

pub fits_end : (p : Protocol) (levels : ℕ) (vs : List Value) (i : ℕ) → length vs ≤ i → fits_all p levels (trees_view (drop i vs)) ≡ true
unfolding fits_in
fits_end p levels vs i le = ap (λ (l : List Value). fits_all p levels (trees_view l)) (drop_all i vs le)

pub pair_fits_next : (p : Protocol) (levels : ℕ) (vs : List (Value × Value)) (i : ℕ) (v : Value × Value) (b c : Bool) → i < length vs → v ≡ get_or vs i v → b ≡ fits p levels (view v.0) → c ≡ fits p levels (view v.1)
    → fits_pairs p levels (pairs_view (drop i vs)) ≡ (b && (c && fits_pairs p levels (pairs_view (drop (i + 1) vs))))
unfolding fits_in
pair_fits_next p levels vs i v b c lt is e f =
    ap (λ (l : List (Value × Value)). fits_pairs p levels (pairs_view l)) (here vs i v lt is) ∙ ap₂ (λ (x y : Bool). x && (y && fits_pairs p levels (pairs_view (drop (i + 1) vs)))) (sym e) (sym f)

pub pair_fits_end : (p : Protocol) (levels : ℕ) (vs : List (Value × Value)) (i : ℕ) → length vs ≤ i → fits_pairs p levels (pairs_view (drop i vs)) ≡ true
unfolding fits_in
pair_fits_end p levels vs i le = ap (λ (l : List (Value × Value)). fits_pairs p levels (pairs_view l)) (drop_all i vs le)

-- ---- exits

pub behind : (old mid new front : List ℕ) → mid ≡ old ++ front → (more : List ℕ) × (new ≡ mid ++ more) → (more : List ℕ) × (new ≡ old ++ more)
behind old mid new front h k = (front ++ k.0, k.1 ∙ rw h (append_assoc old front k.0))

pub behind_key : (old mid key new front text : List ℕ) → mid ≡ old ++ front → key ≡ mid ++ text → (more : List ℕ) × (new ≡ key ++ more) → (more : List ℕ) × (new ≡ old ++ more)
behind_key old mid key new front text h e k = behind old key new (front ++ text) (e ∙ rw h (append_assoc old front text)) k

pub no_items_yet : (p : Protocol) (old : List ℕ) → old ≡ old ++ written_all p no_trees
unfolding written
no_items_yet p old = sym (append-nil old)

pub no_pairs_yet : (p : Protocol) (old : List ℕ) → old ≡ old ++ written_pairs p no_pairs
unfolding written
no_pairs_yet p old = sym (append-nil old)

pub found_end : (bs : List ℕ) (x : List ℕ × List ℕ) → line_at (bs ++ []) ≡ Ok x → false ≡ one_line bs
found_end bs x e = sym (ap has_no_end (ap line_at (sym (append-nil bs)) ∙ e))

pub attribute_fits : (p : Protocol) (below : ℕ) (t : Tree) (ps : Pairs) (c : Bool) → true ≡ fits_beside p (is_few (pair_count ps) && fits_pairs p below ps) → c ≡ (fits p below t)
    → c ≡ fits_in p below (attribute t ps)
unfolding fits_in
attribute_fits p below t ps c e f = f ∙ ap (λ (b : Bool). b && (fits p below t)) e

pub pair_fits_key : (p : Protocol) (levels : ℕ) (vs : List (Value × Value)) (i : ℕ) (v : Value × Value) → i < length vs → v ≡ get_or vs i v → false ≡ fits p levels (view v.0)
    → fits_pairs p levels (pairs_view (drop i vs)) ≡ false
unfolding fits_in
pair_fits_key p levels vs i v lt is e =
    ap (λ (l : List (Value × Value)). fits_pairs p levels (pairs_view l)) (here vs i v lt is) ∙ ap (λ (x : Bool). x && (fits p levels (view v.1) && fits_pairs p levels (pairs_view (drop (i + 1) vs)))) (sym e)

pub attribute_written : {X E : Type 0} (r : Result X E) (p : Protocol) (inner t all : Tree) (ps : Pairs) (old mid new : List ℕ) → inner ≡ t → all ≡ attribute t ps
    → mid ≡ old ++ beside p (pair_count ps) (written_pairs p ps) → Appends mid new (written p inner) r → Appends old new (written p all) r
unfolding written
attribute_written (Ok x) p inner t all ps old mid new a b h k = k ∙ rw (h, a, b) (append_assoc old (beside p (pair_count ps) (written_pairs p ps)) (written p t))
attribute_written (Err e) p inner t all ps old mid new a b h k = behind old mid new (beside p (pair_count ps) (written_pairs p ps)) h k

-- ---- marked up texts, and texts of errors

pub marked_up_length : (format text : List ℕ) → length format + length text + 1 ≡ length (format ++ (58 ∷ text))
marked_up_length format text = omega (arith, length-append format (58 ∷ text))

pub joined_length : (e : ErrorText) → length e.code + length (after_code e.detail) ≡ length (joined e)
joined_length e = sym (length-append e.code (after_code e.detail))

pub joined_inner : (e : ErrorText) → (list_all is_inner e.code && list_all is_inner (after_code e.detail)) ≡ list_all is_inner (joined e)
joined_inner e = sym (list_all-append is_inner e.code (after_code e.detail))

pub joined_spaced : (e : ErrorText) → spaced e.code ++ spaced (after_code e.detail) ≡ spaced (joined e)
joined_spaced e = sym (map-append space e.code (after_code e.detail))
