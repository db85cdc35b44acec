-- The words of values, as those of their trees.
use Rattle.std.proofs.Common.{◌≡◌, ℕ, suc, List, [], ◌∷◌, ◌++◌, length, flat_map, refl, ap, sym, ◌∙◌, codes, decimal, Vec, Box, String, Global, string_bytes, rules}
use mathlib.Core.List.{append_assoc}
use Rattle.resp_core.specs.declared.value.Value.{Value, Array, Set, Map, Push, Attribute, VerbatimString, the_lemmas}
use Rattle.resp_core.specs.declared.value.VerbatimFormat.{VerbatimFormat}
use Rattle.resp_core.specs.Trees.{verbatim}
use Rattle.resp_core.specs.declared.value.PushKind.{PushKind}
use Rattle.resp_core.specs.View.{view, trees_view, pairs_view, kind_view, format_view}
use Rattle.resp_core.proofs.Views.{view-Array, view-Set, view-Map, view-Push, view-Attribute}
use Rattle.cluster_session.specs.Printed.{answer_words, each_words, pair_words, tree_count, pair_count, hex_word}
use Rattle.resp_core.specs.Printed.{format_text, kind_text}

abbrev pub value_words : Value → List ℕ
value_words v = 32 ∷ answer_words (view v)

abbrev pub entry_words : Value × Value → List ℕ
entry_words p = value_words p.0 ++ value_words p.1

-- a list's words, behind its length
abbrev pub list_words : List Value → List ℕ
list_words vs = decimal (length vs) ++ each_words (trees_view vs)

abbrev pub table_words : List (Value × Value) → List ℕ
table_words ps = decimal (length ps) ++ pair_words (pairs_view ps)

pub each_words_of_values : (vs : List Value) → flat_map value_words vs ≡ each_words (trees_view vs)
each_words_of_values [] = refl
each_words_of_values (v ∷ vs) = ap (λ rest. 32 ∷ (answer_words (view v) ++ rest)) (each_words_of_values vs)

pub pair_words_of_values : (ps : List (Value × Value)) → flat_map entry_words ps ≡ pair_words (pairs_view ps)
pair_words_of_values [] = refl
pair_words_of_values (p ∷ ps) =
    append_assoc (value_words p.0) (value_words p.1) (flat_map entry_words ps)
    ∙ ap (λ rest. 32 ∷ (answer_words (view p.0) ++ (32 ∷ (answer_words (view p.1) ++ rest)))) (pair_words_of_values ps)

pub tree_count_of_values : (vs : List Value) → tree_count (trees_view vs) ≡ length vs
tree_count_of_values [] = refl
tree_count_of_values (v ∷ vs) = ap suc (tree_count_of_values vs)

pub pair_count_of_values : (ps : List (Value × Value)) → pair_count (pairs_view ps) ≡ length ps
pair_count_of_values [] = refl
pair_count_of_values (p ∷ ps) = ap suc (pair_count_of_values ps)

pub words-Array : (v : Vec Value Global) → codes "array " ++ list_words v.items ≡ answer_words (view (Array v))
words-Array v =
    ap (λ n. codes "array " ++ (decimal n ++ each_words (trees_view v.items))) (sym (tree_count_of_values v.items))
    ∙ ap answer_words (sym (view-Array v))

pub words-Set : (v : Vec Value Global) → codes "set " ++ list_words v.items ≡ answer_words (view (Set v))
words-Set v =
    ap (λ n. codes "set " ++ (decimal n ++ each_words (trees_view v.items))) (sym (tree_count_of_values v.items))
    ∙ ap answer_words (sym (view-Set v))

pub words-Map : (v : Vec (Value × Value) Global) → codes "map " ++ table_words v.items ≡ answer_words (view (Map v))
words-Map v =
    ap (λ n. codes "map " ++ (decimal n ++ pair_words (pairs_view v.items))) (sym (pair_count_of_values v.items))
    ∙ ap answer_words (sym (view-Map v))

pub words-Push : (k : PushKind) (v : Vec Value Global) → codes "push " ++ (hex_word (kind_text (kind_view k)) ++ (codes " " ++ list_words v.items)) ≡ answer_words (view (Push k v))
words-Push k v =
    ap (λ n. codes "push " ++ (hex_word (kind_text (kind_view k)) ++ (codes " " ++ (decimal n ++ each_words (trees_view v.items))))) (sym (tree_count_of_values v.items))
    ∙ ap answer_words (sym (view-Push k v))

pub words-Attribute : (b : Box Value Global) (v : Vec (Value × Value) Global) → codes "attribute " ++ (table_words v.items ++ (codes " " ++ answer_words (view b.value))) ≡ answer_words (view (Attribute b v))
words-Attribute b v =
    ap (λ n. codes "attribute " ++ ((decimal n ++ pair_words (pairs_view v.items)) ++ (codes " " ++ answer_words (view b.value)))) (sym (pair_count_of_values v.items))
    ∙ ap answer_words (sym (view-Attribute b v))

view-VerbatimString : (f : VerbatimFormat) (s : String Global) → view (VerbatimString f s) ≡ verbatim (format_view f) (string_bytes s)
view-VerbatimString f s = search (rules, the_lemmas)

pub words-VerbatimString : (f : VerbatimFormat) (s : String Global) → codes "verbatim " ++ (hex_word (format_text (format_view f)) ++ (codes " " ++ hex_word (string_bytes s))) ≡ answer_words (view (VerbatimString f s))
words-VerbatimString f s = ap answer_words (sym (view-VerbatimString f s))

-- two pieces behind a name, put together
pub regroup : (old name first second : List ℕ) → (old ++ (name ++ first)) ++ second ≡ old ++ (name ++ (first ++ second))
regroup old name first second = append_assoc old (name ++ first) second ∙ ap (λ w. old ++ w) (append_assoc name first second)
