-- What the rows of the code's table are.
use Rattle.std.specs.Prelude.{◌≡◌, ℕ, ◌==◌, List, [], ◌∷◌, map, filter, length}
use Rattle.cluster_routing.specs.Command.{is_one_of}
use Rattle.std.specs.Borrow.{Bor}
use Rattle.cluster_routing.specs.Table.{Row, Rule, split, key_after_streams, counted_key_or_random, counted_key, key_at, random, all_masters, all_nodes, nowhere, rule_in, table}
use Rattle.cluster_routing.specs.declared.table.Row as coded_row
use Rattle.cluster_routing.specs.declared.table.Rule as coded_rule
use Rattle.cluster_routing.specs.declared.table.Rule.TheVariants.{Split, KeyAfterStreams, CountedKeyOrRandom, CountedKey, Key, Random, AllMasters, AllNodes, Nowhere}

abbrev pub names_of : List (Bor (List ℕ)) → List (List ℕ)
names_of names = map (λ (x : Bor (List ℕ)). x.now) names

abbrev pub shown_rule : coded_rule.Rule → Rule
shown_rule (Split pattern policy) = split pattern policy
shown_rule KeyAfterStreams = key_after_streams
shown_rule (CountedKeyOrRandom place) = counted_key_or_random place
shown_rule (CountedKey place) = counted_key place
shown_rule (Key place) = key_at place
shown_rule Random = random
shown_rule (AllMasters policy) = all_masters policy
shown_rule (AllNodes policy) = all_nodes policy
shown_rule Nowhere = nowhere

abbrev pub shown_rows : List coded_row.Row → List Row
shown_rows rows = map
    (λ (r : coded_row.Row). record { names = names_of r.names.now; rule = shown_rule r.rule }) rows

-- the rule is that of the first row that lists the name
pub record IsRuleAmong (rows : List coded_row.Row) (name : List ℕ)
    (other rule : coded_rule.Rule) : Type 0 where
  pub first : shown_rule rule ≡ rule_in (shown_rows rows) name (shown_rule other)

-- the words of one length
abbrev pub words_of : ℕ → List (List ℕ) → List (List ℕ)
words_of n words = filter (λ word. length word == n) words

-- a row with these names in front of others; none where there is no name
abbrev pub with_row : List (List ℕ) → Rule → List Row → List Row
with_row [] rule rows = rows
with_row (name ∷ names) rule rows = record { names = name ∷ names; rule = rule } ∷ rows

-- the rows with their names of one length
abbrev pub rows_of : ℕ → List Row → List Row
rows_of n [] = []
rows_of n (r ∷ rows) = with_row (words_of n r.names) r.rule (rows_of n rows)

-- of the words, these are enough for texts of one length
pub record NamesServe (n : ℕ) (words names : List (List ℕ)) : Type 0 where
  pub serve : (text : List ℕ) → length text ≡ n → is_one_of names text ≡ is_one_of words text

-- of the table, these rows are enough for names of one length
pub record RowsServe (n : ℕ) (rows : List coded_row.Row) : Type 0 where
  pub serve : (name : List ℕ) (other : Rule) → length name ≡ n
      → rule_in (shown_rows rows) name other ≡ rule_in table name other
