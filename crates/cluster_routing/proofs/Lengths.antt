-- Rows by the length of a name against the whole table.
use Rattle.std.proofs.Common.{◌≡◌, ℕ, Bool, true, false, List, [], ◌∷◌, ◌==◌, ◌||◌, map, length, cond, refl, ap, ◌∙◌, sym, arith}
use Rattle.std.proofs.lemmas.List.{length-map}
use Rattle.std.proofs.lemmas.Slice.Eq.{bytes_eq-Decides}
use Rattle.std.specs.Str.{bytes_eq, str_eq_ignore_ascii_case, str_to_ascii_lowercase}
use Rattle.std.proofs.lemmas.Bool.Decides.{nat_tests}
use Rattle.cluster_routing.specs.Command.{is_one_of}
use Rattle.cluster_routing.specs.Table.{Row, Rule, table, rule_in, rule_of, other_rule}
use Rattle.cluster_routing.specs.Rows.{shown_rows, shown_rule, IsRuleAmong, words_of, with_row, rows_of, NamesServe, RowsServe}
use Rattle.cluster_routing.specs.declared.table.Row as coded_row
use Rattle.cluster_routing.specs.declared.table.Rule as coded_rule

-- texts that differ in case alone are as long
same_length : (word text : List ℕ) → str_eq_ignore_ascii_case word text ≡ true → length word ≡ length text
same_length word text h =
    let same : str_to_ascii_lowercase word ≡ str_to_ascii_lowercase text = (bytes_eq-Decides (str_to_ascii_lowercase word) (str_to_ascii_lowercase text)).0 h in
    let by_map : length (str_to_ascii_lowercase word) ≡ length (str_to_ascii_lowercase text) = ap length same in grind (arith, length-map, by_map)

-- a word of another length is not the text
other_length : (n : ℕ) (word text : List ℕ) → (length word == n) ≡ false → length text ≡ n → str_eq_ignore_ascii_case word text ≡ false
other_length n word text e f = by (str_eq_ignore_ascii_case word text) refl
  where
    by : (b : Bool) → str_eq_ignore_ascii_case word text ≡ b → b ≡ false
    by false h = refl
    by true h = let same : length word ≡ n = same_length word text h ∙ f in grind (arith, nat_tests, e, same)

pub one_of_length : (n : ℕ) (words : List (List ℕ)) (text : List ℕ) → length text ≡ n → is_one_of (words_of n words) text ≡ is_one_of words text
one_of_length n [] text e = refl
one_of_length n (w ∷ ws) text e = by (length w == n) refl (one_of_length n ws text e)
  where
    by : (b : Bool) → (length w == n) ≡ b → is_one_of (words_of n ws) text ≡ is_one_of ws text
        → is_one_of (cond b (w ∷ words_of n ws) (words_of n ws)) text ≡ (str_eq_ignore_ascii_case w text || is_one_of ws text)
    by true h ih = ap (λ t. str_eq_ignore_ascii_case w text || t) ih
    by false h ih = ih ∙ ap (λ t. t || is_one_of ws text) (sym (other_length n w text h e))

-- a row without names may be left out
with_row_serves : (names : List (List ℕ)) (rule : Rule) (rows : List Row) (name : List ℕ) (other : Rule)
    → rule_in (with_row names rule rows) name other ≡ cond (is_one_of names name) rule (rule_in rows name other)
with_row_serves [] rule rows name other = refl
with_row_serves (w ∷ ws) rule rows name other = refl

pub rows_of_length : (n : ℕ) (rows : List Row) (name : List ℕ) (other : Rule) → length name ≡ n → rule_in (rows_of n rows) name other ≡ rule_in rows name other
rows_of_length n [] name other e = refl
rows_of_length n (r ∷ rows) name other e =
    with_row_serves (words_of n r.names) r.rule (rows_of n rows) name other
    ∙ ap (λ t. cond (is_one_of (words_of n r.names) name) r.rule t) (rows_of_length n rows name other e)
    ∙ ap (λ b. cond b r.rule (rule_in rows name other)) (one_of_length n r.names name e)

-- rows of the code that are those of one length
pub served_rows : {n m : ℕ} {rows : List coded_row.Row} → m ≡ n → shown_rows rows ≡ rows_of n table → RowsServe m rows
served_rows {n} {m} {rows} e t = record { serve = λ name other h. ap (λ rs. rule_in rs name other) t ∙ rows_of_length n table name other (h ∙ e) }

pub served_rows_whole : {m : ℕ} {rows : List coded_row.Row} → shown_rows rows ≡ table → RowsServe m rows
served_rows_whole {m} {rows} t = record { serve = λ name other h. ap (λ rs. rule_in rs name other) t }

pub served_names : {n m : ℕ} {words names : List (List ℕ)} → m ≡ n → names ≡ words_of n words → NamesServe m words names
served_names {n} {m} {words} {names} e t = record { serve = λ text h. ap (λ ns. is_one_of ns text) t ∙ one_of_length n words text (h ∙ e) }

pub served_names_whole : {m : ℕ} {words names : List (List ℕ)} → names ≡ words → NamesServe m words names
served_names_whole {m} {words} {names} t = record { serve = λ text h. ap (λ ns. is_one_of ns text) t }

pub by_rows : {rows : List coded_row.Row} {name : List ℕ} {other rule : coded_rule.Rule} → RowsServe (length name) rows → IsRuleAmong rows name other rule
    → (family : Bool) → shown_rule other ≡ other_rule family → shown_rule rule ≡ rule_of name family
unfolding rule_of
by_rows {rows} {name} {other} {rule} s r family e = r.first ∙ s.serve name (shown_rule other) refl ∙ ap (rule_in table name) e
