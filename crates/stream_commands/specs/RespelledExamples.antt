-- Replies that say the same in other shapes and are not equal, and readings that the law on them refuses.
-- Source: the RESP3 specification (https://github.com/redis/redis-specifications), "Map type".
use Rattle.std.specs.Prelude.{◌≡◌, [], Option, Some, None}
use Rattle.resp_core.specs.Trees.{Tree, array, map, set, attribute, no_trees, tree, Pairs, no_pairs, pair}
use Rattle.stream_commands.specs.Entries.{some_fields, entries}
use Rattle.stream_commands.specs.RecordLaws.{ReadAlike}
use Rattle.stream_commands.specs.Respelled.{by_map, by_array, no_more, one_more, in_one_map, each_alone, no_items, item, no_values, value, SameFields, SameEntry, SameEntries, SameRow, SameRows, Respelled, read, range, claim, four}

-- they say the same, and are not equal
abbrev pub SayTheSame : (Tree → Tree → Type 0) → Tree → Tree → Type 0
SayTheSame Same t u = Same t u × (t ≡ u → ⊥)

abbrev pub two : Tree → Tree → Tree
two t u = array (tree t (tree u no_trees))

abbrev pub alone : Tree → Tree
alone t = array (tree t no_trees)

abbrev pub one_pair : Tree → Tree → Tree
one_pair k v = map (pair k v no_pairs)

-- each of these holds of any ids, names, keys and values

same_name : (k v : Tree) → SameFields (one_pair k v) (two k v)
same_name k v = SameFields.same_pairs (by_map (pair k v no_pairs)) (by_array (pair k v no_pairs))

pub fields_by_map_and_in_turn : (name word : Tree)
    → SayTheSame SameFields (one_pair name word) (two name word)
fields_by_map_and_in_turn name word = (same_name name word, λ e. cc)

pub entry_by_map_and_in_turn : (id fields : Tree) → SayTheSame SameEntry (one_pair id fields) (two id fields)
entry_by_map_and_in_turn id fields = (
  SameEntry.of_two (by_map (pair id fields no_pairs))
      (by_array (pair id fields no_pairs)) SameFields.equal,
  λ e. cc,
)

pub entry_of_four_with_other_fields : (id name word milliseconds deliveries : Tree)
    → SayTheSame SameEntry (four id (one_pair name word) milliseconds deliveries)
    (four id (two name word) milliseconds deliveries)
entry_of_four_with_other_fields id name word milliseconds deliveries =
    (SameEntry.of_four (same_name name word), λ e. cc)

pub entries_one_by_one : (id name word : Tree)
    → SayTheSame (Respelled range) (alone (two id (one_pair name word))) (alone (two id (two name word)))
entries_one_by_one id name word = (
  SameEntries.in_arrays
      (item (SameEntry.of_two (by_array (pair id (one_pair name word) no_pairs))
      (by_array (pair id (two name word) no_pairs)) (same_name name word)) no_items),
  λ e. cc,
)

pub entries_of_a_set : (id fields : Tree)
    → SayTheSame (Respelled range) (set (tree (one_pair id fields) no_trees))
    (set (tree (two id fields) no_trees))
entries_of_a_set id fields =
    (SameEntries.in_sets (item (entry_by_map_and_in_turn id fields).0 no_items), λ e. cc)

-- two entries, each alone in one of the two shapes, and both in one map
pub entries_in_one_map : (id other fields more : Tree)
    → SayTheSame (Respelled claim) (two (two id fields) (one_pair other more))
    (map (pair id fields (pair other more no_pairs)))
entries_in_one_map id other fields more = (
  SameEntries.in_pairs
      (each_alone (one_more (by_array (pair id fields no_pairs))
      (one_more (by_map (pair other more no_pairs)) no_more)))
      (in_one_map (pair id fields (pair other more no_pairs)))
      (value SameFields.equal (value SameFields.equal no_values)),
  λ e. cc,
)

pub behind_an_attribute : (name word : Tree) (about : Pairs)
    → SayTheSame SameFields (attribute (one_pair name word) about) (attribute (two name word) about)
behind_an_attribute name word about = (SameFields.behind (same_name name word), λ e. cc)

-- a row of two keys
pub row_by_map_and_in_turn : (key other fields more : Tree)
    → SayTheSame SameRow (map (pair key fields (pair other more no_pairs)))
    (array (tree key (tree fields (tree other (tree more no_trees)))))
row_by_map_and_in_turn key other fields more = (
  SameRow.of_pairs (by_map (pair key fields (pair other more no_pairs)))
      (by_array (pair key fields (pair other more no_pairs)))
      (value SameEntries.equal (value SameEntries.equal no_values)),
  λ e. cc,
)

pub rows_one_by_one : (key fields : Tree)
    → SayTheSame (Respelled read) (alone (one_pair key fields)) (alone (two key fields))
rows_one_by_one key fields = (
  SameRows.in_arrays (item
      (SameRow.of_pairs (by_map (pair key fields no_pairs)) (by_array (pair key fields no_pairs))
      (value SameEntries.equal no_values)) no_items),
  λ e. cc,
)

-- the whole reply to a read in arrays, and in maps
pub rows_in_one_map : (key id name word : Tree)
    → SayTheSame (Respelled read) (alone (two key (alone (two id (two name word)))))
    (one_pair key (one_pair id (one_pair name word)))
rows_in_one_map key id name word = (
  SameRows.in_pairs
      (each_alone (one_more (by_array (pair key (alone (two id (two name word))) no_pairs)) no_more))
      (in_one_map (pair key (one_pair id (one_pair name word)) no_pairs))
      (value
      (SameEntries.in_pairs
      (each_alone (one_more (by_array (pair id (two name word) no_pairs)) no_more))
      (in_one_map (pair id (one_pair name word) no_pairs))
      (value (SameFields.same_pairs (by_array (pair name word no_pairs)) (by_map (pair name word no_pairs)))
      no_values))
      no_values),
  λ e. cc,
)

-- A wrong reading, of arrays alone, is refused by the law: for fields, and for entries.

-- a reading that takes arrays alone; the laws refuse it
abbrev pub of_arrays_alone : {M : Type 0} → (Tree → Option M) → Tree → Option M
of_arrays_alone reading (array ts) = reading (array ts)
of_arrays_alone reading t = None

pub fields_of_arrays_alone_are_wrong : ReadAlike SameFields (of_arrays_alone some_fields) → ⊥
fields_of_arrays_alone_are_wrong alike = let e : Some []
    ≡ None = alike (array no_trees) (map no_pairs)
    (SameFields.same_pairs (by_array no_pairs) (by_map no_pairs)) in cc

pub entries_of_arrays_alone_are_wrong : ReadAlike (Respelled range) (of_arrays_alone entries) → ⊥
entries_of_arrays_alone_are_wrong alike = let e : Some []
    ≡ None = alike (array no_trees) (map no_pairs)
    (SameEntries.in_pairs (each_alone no_more) (in_one_map no_pairs) no_values) in cc
