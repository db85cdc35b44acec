-- What a session prints for an answer and for a refusal: the form's name, then its parts, all separated by
-- one space. Sources: the session language is this repository's own (docs/SESSIONS.md); the forms are those
-- of the RESP3 specification, the names of kinds those of the crate `redis`.
use Rattle.std.specs.Prelude.{ℕ, ℤ, suc, Bool, true, false, List, [], ◌∷◌, ◌++◌, length, codes, Option, Some, None, Result, Ok, Err}
use Rattle.std.specs.List.{flat_map}
use Rattle.std.specs.Fmt.{decimal, signed_decimal}
use Rattle.resp_core.specs.Errors.{Refusal, kind_of}
use Rattle.stream_commands.specs.Entries.{Entry}
use Rattle.stream_commands.specs.ReadReply.{Row}
use Rattle.cluster_calls.specs.Calls.Answer.{Answer, Value, Range, Read, Told}
use Rattle.cluster_session.specs.KindNames.{kind_name}
use Rattle.hex.specs.Hex.{encode_lower}
use Rattle.resp_core.specs.Printed.{format_text, kind_text}
use Rattle.resp_core.specs.Trees.{Tree, nil, int, bulk, array, simple, okay, set, attribute, double, boolean, verbatim, big_number, push, server_error, Trees, no_trees, tree, Pairs, no_pairs, pair}
use Rattle.resp_core.specs.Trees as forms

-- bytes in lower case hexadecimal, a dash for none
abbrev pub hex_word : List ℕ → List ℕ
hex_word [] = codes "-"
hex_word (byte ∷ bytes) = encode_lower (byte ∷ bytes)

abbrev pub truth_word : Bool → List ℕ
truth_word true = codes "true"
truth_word false = codes "false"

abbrev pub tree_count : Trees → ℕ
tree_count no_trees = 0
tree_count (tree t ts) = suc (tree_count ts)

abbrev pub pair_count : Pairs → ℕ
pair_count no_pairs = 0
pair_count (pair key value ps) = suc (pair_count ps)

abbrev mutual
  -- the words of an answer
  pub answer_words : Tree → List ℕ
  answer_words nil = codes "nil"
  answer_words (int n) = codes "int " ++ signed_decimal n
  answer_words (bulk bytes) = codes "bulk " ++ hex_word bytes
  answer_words (array items) = codes "array " ++ (decimal (tree_count items) ++ each_words items)
  answer_words (simple bytes) = codes "simple " ++ hex_word bytes
  answer_words okay = codes "okay"
  answer_words (forms.map pairs) = codes "map " ++ (decimal (pair_count pairs) ++ pair_words pairs)
  answer_words (attribute inner pairs) = codes "attribute "
      ++ ((decimal (pair_count pairs) ++ pair_words pairs) ++ (codes " " ++ answer_words inner))
  answer_words (set items) = codes "set " ++ (decimal (tree_count items) ++ each_words items)
  answer_words (double bytes) = codes "double " ++ hex_word bytes
  answer_words (boolean truth) = codes "bool " ++ truth_word truth
  answer_words (verbatim format bytes) = codes "verbatim "
      ++ (hex_word (format_text format) ++ (codes " " ++ hex_word bytes))
  answer_words (big_number digits) = codes "big " ++ hex_word digits
  answer_words (push kind items) = codes "push "
      ++ (hex_word (kind_text kind) ++ (codes " " ++ (decimal (tree_count items) ++ each_words items)))
  answer_words (server_error error) = codes "error " ++ hex_word error.code

  -- the words of each tree, a space before each
  pub each_words : Trees → List ℕ
  each_words no_trees = []
  each_words (tree t ts) = codes " " ++ (answer_words t ++ each_words ts)

  -- the words of each key and value, a space before each
  pub pair_words : Pairs → List ℕ
  pair_words no_pairs = []
  pair_words (pair key value ps) = codes " "
      ++ (answer_words key ++ (codes " " ++ (answer_words value ++ pair_words ps)))

-- ---- entries of streams

-- a number where there is one, else a dash
abbrev pub number_word : Option ℤ → List ℕ
number_word None = codes "-"
number_word (Some n) = signed_decimal n

-- a name and its value, a space before each
abbrev pub field_words : List ℕ × Tree → List ℕ
field_words field = codes " " ++ (hex_word field.0 ++ (codes " " ++ answer_words field.1))

-- an entry: its id, its fields behind their number, and when and how often it was delivered
abbrev pub entry_words : Entry → List ℕ
entry_words entry =
    codes "id " ++ (hex_word entry.id
    ++ (codes " " ++ (decimal (length entry.fields) ++ (flat_map field_words entry.fields
    ++ (codes " " ++ (number_word entry.milliseconds ++ (codes " " ++ number_word entry.deliveries)))))))

abbrev pub entries_words : List Entry → List ℕ
entries_words entries = codes "ids "
    ++ (decimal (length entries) ++ flat_map (λ entry. codes " " ++ entry_words entry) entries)

-- a stream: its key, and its entries
abbrev pub row_words : Row → List ℕ
row_words row = codes "key " ++ (hex_word row.key ++ (codes " " ++ entries_words row.entries))

abbrev pub rows_words : List Row → List ℕ
rows_words rows = codes "keys "
    ++ (decimal (length rows) ++ flat_map (λ row. codes " " ++ row_words row) rows)

-- ---- the lines of a call

-- the line of a refused call
abbrev pub refused_line : Refusal → List ℕ
refused_line refusal = codes "err " ++ (kind_name (kind_of refusal) ++ codes "\n")

-- the line of a position of a pipeline
abbrev pub outcome_line : Result Tree Refusal → List ℕ
outcome_line (Ok value) = codes "each ok " ++ (answer_words value ++ codes "\n")
outcome_line (Err refusal) = codes "each err " ++ (kind_name (kind_of refusal) ++ codes "\n")

-- the lines of an answered call, one but where it tells of each position: an accepted refresh has nothing more
-- to print, and no line of a session makes the others
abbrev pub answer_line : Answer → List ℕ
answer_line (Value reply) = codes "ok " ++ (answer_words reply ++ codes "\n")
answer_line (Range entries) = codes "ok " ++ (entries_words entries ++ codes "\n")
answer_line (Read rows) = codes "ok " ++ (rows_words rows ++ codes "\n")
answer_line (Told outcomes) = codes "ok each "
    ++ (decimal (length outcomes) ++ (codes "\n" ++ flat_map outcome_line outcomes))
answer_line _ = codes "ok\n"

abbrev pub call_line : Result Answer Refusal → List ℕ
call_line (Ok answer) = answer_line answer
call_line (Err refusal) = refused_line refusal
