-- A reply that was read is its own form in RESP3.
use Rattle.std.proofs.Common.{◌≡◌, ℕ, ◌<◌, Bool, true, false, cond, ltb, eqb, not, length, get_or, arith, List, [], ◌∷◌, ◌++◌, ℤ, pos, negsuc, Option, Some, None, option_map, is_some, refl, sym, ap, ap₂, subst, ◌∙◌, codes, IsUtf8}
use Rattle.std.specs.List.{position_or_len, before_first, after_first}
use Rattle.std.proofs.lemmas.Bool.{ltb-true, eqb-true}
use Rattle.std.proofs.lemmas.List.{length-take-le}
use Rattle.std.proofs.lemmas.List.Sums.{split_at_first, passes_at_first, prefix_len-le-length}
use Rattle.std.proofs.lemmas.Slice.Eq.{bytes_eq-Decides}
use Rattle.std.proofs.lemmas.Str.{IsUtf8-from_is_utf8}
use Rattle.std.specs.Str.{is_utf8, trim, bytes_eq}
use Rattle.std.specs.Str.Lossy.{utf8_lossy}
use Rattle.resp_core.specs.declared.parser.marker.Marker.{Marker}
use Rattle.resp_core.specs.declared.parser.marker.Marker.TheVariants as rows
use Rattle.resp_core.specs.declared.value.write.Protocol.TheVariants.{Resp3}
use Rattle.resp_core.specs.Table.{Next, whole, bytes, values, next, row, number, counted, made_of, made_from, begins, may_begin, pushed, kind_of, kind_named, is_double, format_of, error_tree, verbatim_of, paired, last}
use Rattle.resp_core.specs.Trees.{Format, markdown, text, Kind, other, Tree, nil, int, bulk, array, simple, okay, set, attribute, double, boolean, verbatim, big_number, push, server_error, Trees, no_trees, tree, pair}
use Rattle.resp_core.specs.Trees as trees
use Rattle.resp_core.specs.Printed.{format_text, kind_text}
use Rattle.resp_core.specs.Grammar.{HasNoCrLf, Spells, by_line, by_bytes, by_values, SpellsAll, none, more}
use Rattle.resp_core.specs.Written.{form, forms, pair_forms, verbatim_in, ReadAsItself}
use Rattle.resp_core.proofs.KindNames.{prints_back}
use Rattle.resp_core.proofs.ErrorTexts.{joins}
use Rattle.resp_core.proofs.WrittenForms.{line_one, trims_again, trimmed_line}

abbrev whole_of : Tree → Option Next
whole_of t = Some (whole t)

abbrev Own : Tree → Type 0
Own t = form Resp3 t ≡ t

error_own : (bs : List ℕ) → Own (error_tree bs)
unfolding form
error_own bs = ap error_tree (joins bs)

tree_is : (s t : Tree) → whole_of s ≡ whole_of t → s ≡ t
tree_is s t e = cc

owned : (s t : Tree) → whole_of s ≡ whole_of t → Own s → Own t
owned s t e h = subst Own (tree_is s t e) h

simple_own : (line : List ℕ) → HasNoCrLf line → Own (cond {A = Tree} (bytes_eq line (codes "OK")) okay (simple line))
unfolding form
simple_own line h = go (bytes_eq line (codes "OK")) refl
  where
    go : (b : Bool) → bytes_eq line (codes "OK") ≡ b → Own (cond {A = Tree} b okay (simple line))
    go true e = refl
    go false e = rw (line_one line h, e) refl

double_own : (line : List ℕ) → HasNoCrLf line → IsUtf8 line → is_double (trim line) ≡ true → Own (double (trim line))
unfolding form
double_own line h u d = rw (line_one (trim line) (trimmed_line line u h), trims_again line u, d) refl

big_own : (line : List ℕ) → HasNoCrLf line → is_utf8 line ≡ true → Own (big_number line)
unfolding form
big_own line h u = rw (line_one line h, u) refl

counted_own : (n : Option ℤ) (f : ℕ → Next) (t : Tree) → ((k : ℕ) (s : Tree) → f k ≡ whole s → ⊥) → counted n f (Some (whole nil)) ≡ whole_of t → Own t
unfolding form
counted_own None f t never e = absurd cc
counted_own (Some (pos k)) f t never e = absurd (never k t cc)
counted_own (Some (negsuc k)) f t never e = owned nil t e refl

counted_none : (n : Option ℤ) (f : ℕ → Next) (t : Tree) → ((k : ℕ) (s : Tree) → f k ≡ whole s → ⊥) → counted n f None ≡ whole_of t → Own t
counted_none None f t never e = absurd cc
counted_none (Some (pos k)) f t never e = absurd (never k t cc)
counted_none (Some (negsuc k)) f t never e = absurd cc

counted_push : (n : Option ℤ) (t : Tree) → counted n values (Some (values 0)) ≡ whole_of t → Own t
counted_push None t e = absurd cc
counted_push (Some (pos k)) t e = absurd cc
counted_push (Some (negsuc k)) t e = absurd cc

row_own : (m : Marker) (line : List ℕ) (t : Tree) → HasNoCrLf line → is_utf8 line ≡ true → row m line ≡ whole_of t → Own t
unfolding row form
row_own rows.SimpleString line t h u e = owned _ t e (simple_own line h)
row_own rows.SimpleError line t h u e = owned _ t e (error_own line)
row_own rows.Integer line t h u e = go (number line) e
  where
    go : (n : Option ℤ) → option_map (λ n. whole (int n)) n ≡ whole_of t → Own t
    go None k = absurd cc
    go (Some n) k = owned (int n) t k refl
row_own rows.BulkString line t h u e = counted_own (number line) bytes t (λ k s f. cc) e
row_own rows.Array line t h u e = counted_own (number line) values t (λ k s f. cc) e
row_own rows.Set line t h u e = counted_own (number line) values t (λ k s f. cc) e
row_own rows.Map line t h u e = counted_none (number line) _ t (λ k s f. cc) e
row_own rows.Attribute line t h u e = counted_none (number line) _ t (λ k s f. cc) e
row_own rows.Push line t h u e = counted_push (number line) t e
row_own rows.Null line t h u e = owned nil t e refl
row_own rows.Boolean line t h u e = go (bytes_eq line (codes "t")) (bytes_eq line (codes "f")) e
  where
    go : (a b : Bool) → cond {A = Option Next} a (Some (whole (boolean true))) (cond {A = Option Next} b (Some (whole (boolean false))) None) ≡ whole_of t → Own t
    go true b k = owned (boolean true) t k refl
    go false true k = owned (boolean false) t k refl
    go false false k = absurd cc
row_own rows.Double line t h u e = go (is_double (trim line)) refl e
  where
    go : (b : Bool) → is_double (trim line) ≡ b → cond {A = Option Next} b (Some (whole (double (trim line)))) None ≡ whole_of t → Own t
    go true d k = owned (double (trim line)) t k (double_own line h (IsUtf8-from_is_utf8 line u) d)
    go false d k = absurd cc
row_own rows.BigNumber line t h u e = owned _ t e (big_own line h u)
row_own rows.VerbatimString line t h u e = counted_none (number line) _ t (λ k s f. cc) e
row_own rows.BulkError line t h u e = counted_none (number line) _ t (λ k s f. cc) e

line_own : (m : Marker) (line : List ℕ) (t : Tree) → HasNoCrLf line → next m line ≡ whole_of t → Own t
unfolding next
line_own m line t h e = go (is_utf8 line) refl e
  where
    go : (b : Bool) → is_utf8 line ≡ b → cond {A = Option Next} b (row m line) None ≡ whole_of t → Own t
    go true u k = row_own m line t h u k
    go false u k = absurd cc

-- ---- counted bytes

chosen : (b : Bool) (bs : List ℕ) (f others : Format) → (b ≡ true → format_text f ≡ bs) → format_text others ≡ bs → format_text (cond {A = Format} b f others) ≡ bs
chosen true bs f others here later = here refl
chosen false bs f others here later = later

format_back : (bs : List ℕ) → format_text (format_of bs) ≡ bs
format_back bs =
    chosen (bytes_eq bs (codes "txt")) bs text _ (λ e. sym ((bytes_eq-Decides bs (codes "txt")).0 e))
    (chosen (bytes_eq bs (codes "mkd")) bs markdown _ (λ e. sym ((bytes_eq-Decides bs (codes "mkd")).0 e)) refl)

abbrev colon : ℕ → Bool
colon b = eqb b 58

colon_cut : (bs : List ℕ) → ltb (length (before_first colon bs)) (length bs) ≡ true → before_first colon bs ++ (58 ∷ after_first colon bs) ≡ bs
colon_cut bs test =
    let n = position_or_len colon bs in
    let before = length-take-le n bs (prefix_len-le-length (λ b. not (colon b)) bs) in
    let lt : n < length bs = omega (arith, ltb-true _ _ test, before) in
    let at : get_or bs n 0 ≡ 58 = eqb-true _ _ (passes_at_first colon bs 0 lt) in
    sym (split_at_first colon bs 0 lt ∙ ap (λ (b : ℕ). before_first colon bs ++ (b ∷ after_first colon bs)) at)

some_is : (s t : Tree) → Some s ≡ Some t → s ≡ t
some_is s t e = cc

verbatim_own : (bs : List ℕ) (t : Tree) → verbatim_of bs ≡ Some t → Own t
unfolding verbatim_of form
verbatim_own bs t e = go (ltb (length (before_first colon bs)) (length bs)) refl e
  where
    go : (b : Bool) → ltb (length (before_first colon bs)) (length bs) ≡ b
        → cond {A = Option Tree} b (Some (verbatim (format_of (before_first colon bs)) (after_first colon bs))) None ≡ Some t → Own t
    go true lt k = subst Own (some_is _ t k)
        (ap verbatim_in (ap (λ (l : List ℕ). l ++ (58 ∷ after_first colon bs)) (format_back (before_first colon bs)) ∙ colon_cut bs lt))
    go false lt k = absurd cc

bytes_own : (m : Marker) (bs : List ℕ) (t : Tree) → made_of m bs ≡ Some t → Own t
unfolding made_of form
bytes_own rows.VerbatimString bs t e = verbatim_own (utf8_lossy bs) t e
bytes_own rows.BulkError bs t e = subst Own (some_is _ t e) (error_own (utf8_lossy bs))
bytes_own rows.SimpleString bs t e = subst Own (some_is (bulk bs) t e) refl
bytes_own rows.SimpleError bs t e = subst Own (some_is (bulk bs) t e) refl
bytes_own rows.Integer bs t e = subst Own (some_is (bulk bs) t e) refl
bytes_own rows.BulkString bs t e = subst Own (some_is (bulk bs) t e) refl
bytes_own rows.Array bs t e = subst Own (some_is (bulk bs) t e) refl
bytes_own rows.Set bs t e = subst Own (some_is (bulk bs) t e) refl
bytes_own rows.Map bs t e = subst Own (some_is (bulk bs) t e) refl
bytes_own rows.Attribute bs t e = subst Own (some_is (bulk bs) t e) refl
bytes_own rows.Push bs t e = subst Own (some_is (bulk bs) t e) refl
bytes_own rows.Null bs t e = subst Own (some_is (bulk bs) t e) refl
bytes_own rows.Boolean bs t e = subst Own (some_is (bulk bs) t e) refl
bytes_own rows.Double bs t e = subst Own (some_is (bulk bs) t e) refl
bytes_own rows.BigNumber bs t e = subst Own (some_is (bulk bs) t e) refl

-- ---- groups

kind_is : (j k : Kind) → Some j ≡ Some k → j ≡ k
kind_is j k e = cc

again : (bs : List ℕ) (k : Kind) → Some (kind_named bs) ≡ Some k → kind_named (kind_text k) ≡ k
again bs k e = subst (λ (j : Kind). kind_named (kind_text j) ≡ j) (kind_is (kind_named bs) k e) (ap kind_named (prints_back bs))

kind_again : (first : Tree) (k : Kind) → kind_of first ≡ Some k → kind_named (kind_text k) ≡ k
unfolding kind_of
kind_again (simple bs) k e = again bs k e
kind_again (bulk bs) k e = go (is_utf8 bs) e
  where
    go : (b : Bool) → cond {A = Option Kind} b (Some (kind_named bs)) None ≡ Some k → kind_named (kind_text k) ≡ k
    go true f = again bs k f
    go false f = absurd cc
kind_again nil k e = absurd cc
kind_again (int n) k e = absurd cc
kind_again (array ts) k e = absurd cc
kind_again okay k e = absurd cc
kind_again (trees.map ps) k e = absurd cc
kind_again (attribute t ps) k e = absurd cc
kind_again (set ts) k e = absurd cc
kind_again (double bs) k e = absurd cc
kind_again (boolean b) k e = absurd cc
kind_again (verbatim f bs) k e = absurd cc
kind_again (big_number bs) k e = absurd cc
kind_again (push j ts) k e = absurd cc
kind_again (server_error x) k e = absurd cc

rest : Trees → Trees
rest no_trees = no_trees
rest (tree t ts) = ts

forms_rest : (t : Tree) (ts : Trees) → forms Resp3 (tree t ts) ≡ tree t ts → forms Resp3 ts ≡ ts
unfolding form rest
forms_rest t ts h = ap rest h

pushed_own : (first : Tree) (ts : Trees) → forms Resp3 ts ≡ ts → is_some (kind_of first) ≡ true → Own (pushed (kind_of first) ts)
unfolding form
pushed_own first ts h begun = go (kind_of first) refl begun
  where
    go : (o : Option Kind) → kind_of first ≡ o → is_some o ≡ true → Own (pushed o ts)
    go None e b = absurd cc
    go (Some k) e b = ap₂ push (kind_again first k e) h

paired_forms : (ts : Trees) → pair_forms Resp3 (paired ts) ≡ paired (forms Resp3 ts)
unfolding form
paired_forms no_trees = refl
paired_forms (tree k no_trees) = refl
paired_forms (tree k (tree v ts)) = ap (pair (form Resp3 k) (form Resp3 v)) (paired_forms ts)

last_form : (ts : Trees) → form Resp3 (last ts) ≡ last (forms Resp3 ts)
unfolding form
last_form no_trees = refl
last_form (tree t no_trees) = refl
last_form (tree t (tree u ts)) = last_form (tree u ts)

empty_push : kind_named (kind_text (other [])) ≡ other []
unfolding kind_named kind_text
empty_push = refl

group_own : (m : Marker) (ts : Trees) → forms Resp3 ts ≡ ts → begins m ts ≡ true → Own (made_from m ts)
unfolding made_from may_begin form
group_own rows.Set ts h b = ap set h
group_own rows.Map ts h b = ap trees.map (paired_forms ts ∙ ap paired h)
group_own rows.Attribute ts h b = ap₂ attribute (last_form ts ∙ ap last h) (paired_forms ts ∙ ap paired h)
group_own rows.Push no_trees h b = ap (λ (k : Kind). push k no_trees) empty_push
group_own rows.Push (tree first ts) h b = pushed_own first ts (forms_rest first ts h) b
group_own rows.SimpleString ts h b = ap array h
group_own rows.SimpleError ts h b = ap array h
group_own rows.Integer ts h b = ap array h
group_own rows.BulkString ts h b = ap array h
group_own rows.Array ts h b = ap array h
group_own rows.Null ts h b = ap array h
group_own rows.Boolean ts h b = ap array h
group_own rows.Double ts h b = ap array h
group_own rows.BigNumber ts h b = ap array h
group_own rows.VerbatimString ts h b = ap array h
group_own rows.BulkError ts h b = ap array h

mutual
  unfolding form

  own : {limit level : ℕ} {front : List ℕ} {t : Tree} → Spells limit level front t → Own t
  own (by_line {line = line} {m = m} {t = t} le o e) = line_own m line t o.one_line e
  own (by_bytes {m = m} {t = t} bs le o e len made) = bytes_own m bs t made
  own (by_values {m = m} {ts = ts} le o e all first) = group_own m ts (owns all) first

  owns : {limit level n : ℕ} {front : List ℕ} {ts : Trees} → SpellsAll limit level n front ts → forms Resp3 ts ≡ ts
  owns none = refl
  owns (more h hs) = ap₂ tree (own h) (owns hs)

pub reads_as_itself : ReadAsItself
reads_as_itself limit level spelled t h = own h
