-- Respelled replies are read alike.
use Rattle.std.proofs.Common.{◌≡◌, List, [], Option, Some, None, option_map, refl, sym, ◌∙◌, ap}
use Rattle.std.proofs.Common.{map as each}
use Rattle.std.specs.List.{flat_map}
use Rattle.std.specs.Str.{bytes_eq}
use Rattle.indexmap.specs.IndexMap.{insert_all}
use Rattle.resp_core.specs.Trees.{Tree, Pairs, no_pairs, pair, Trees}
use Rattle.resp_args.specs.Convert.{items, traverse, part_by_part, one_pair, fields_of}
use Rattle.resp_core.specs.Parts.{pair_list, two_by_two}
use Rattle.stream_commands.specs.Shapes.{a_text, list_of, named}
use Rattle.stream_commands.specs.Entries.{Entry, some_fields, ids_with_fields, without_times, entries, claimed_entry, with_times, claimed_entries}
use Rattle.stream_commands.specs.ReadReply.{row, rows, read_reply}
use Rattle.stream_commands.specs.Respelled.{in_turn, SpellsPairs, by_map, by_array, SpellEach, no_more, one_more, ListsPairs, in_one_map, each_alone, Items, no_items, item, Values, no_values, value, SameFields, SameEntry, SameEntries, SameRow, SameRows}
use Rattle.stream_commands.specs.RecordLaws.{ReadAlike, RespelledReadAlike}

-- pairs in any spelling

two_by_two-in_turn : (ps : Pairs) → two_by_two (in_turn ps) ≡ Some (pair_list ps)
two_by_two-in_turn no_pairs = refl
two_by_two-in_turn (pair k v ps) = rw (two_by_two-in_turn ps) refl

named-pairs : {M : Type 0} (read : Tree → Option M) {t : Tree} {ps : Pairs} → SpellsPairs t ps → named read t ≡ fields_of a_text read bytes_eq (pair_list ps)
named-pairs read (by_map ps) = refl
named-pairs read (by_array ps) = rw (two_by_two-in_turn ps) refl

-- lists whose items are read alike

traverse-items : {M : Type 0} (Same : Tree → Tree → Type 0) (read : Tree → Option M) → ReadAlike Same read → {ts us : Trees} → Items Same ts us → traverse read (items ts) ≡ traverse read (items us)
traverse-items Same read alike no_items = refl
traverse-items Same read alike (item s rest) = rw (alike _ _ s, traverse-items Same read alike rest) refl

traverse-values : {M K : Type 0} (Same : Tree → Tree → Type 0) (key : Tree → Option K) (read : Tree → Option M) → ReadAlike Same read → {ps qs : Pairs} → Values Same ps qs → traverse (part_by_part key read) (pair_list ps) ≡ traverse (part_by_part key read) (pair_list qs)
traverse-values Same key read alike no_values = refl
traverse-values Same key read alike (value s rest) = rw (alike _ _ s, traverse-values Same key read alike rest) refl

module _ {M : Type 0} (Value Same : Tree → Tree → Type 0) (itself : (v : Tree) → Value v v) (alone : (t u k v w : Tree) → SpellsPairs t (pair k v no_pairs) → SpellsPairs u (pair k w no_pairs) → Value v w → Same t u) (read : Tree → Option M) (alike : ReadAlike Same read) where
  traverse-each : {ts : Trees} {ps : Pairs} → SpellEach ts ps → traverse read (items ts) ≡ traverse (λ p. read (one_pair p)) (pair_list ps)
  traverse-each no_more = refl
  traverse-each (one_more {k = k} {v = v} s rest) = rw (alike _ _ (alone _ _ k v v s (by_map (pair k v no_pairs)) (itself v)), traverse-each rest) refl

  list_of-pairs : {t : Tree} {ps : Pairs} → ListsPairs t ps → list_of read t ≡ traverse (λ p. read (one_pair p)) (pair_list ps)
  list_of-pairs (in_one_map ps) = refl
  list_of-pairs (each_alone s) = traverse-each s

  traverse-one_pairs : {ps qs : Pairs} → Values Value ps qs → traverse (λ p. read (one_pair p)) (pair_list ps) ≡ traverse (λ p. read (one_pair p)) (pair_list qs)
  traverse-one_pairs no_values = refl
  traverse-one_pairs (value {k = k} {v = v} {w = w} s rest) = rw (alike _ _ (alone _ _ k v w (by_map (pair k v no_pairs)) (by_map (pair k w no_pairs)) s), traverse-one_pairs rest) refl

  list_of-alike : {t u : Tree} {ps qs : Pairs} → ListsPairs t ps → ListsPairs u qs → Values Value ps qs → list_of read t ≡ list_of read u
  list_of-alike a b s = list_of-pairs a ∙ traverse-one_pairs s ∙ sym (list_of-pairs b)

-- fields

fields_alike : {M : Type 0} (read : Tree → Option M) → ReadAlike SameFields (named read)
fields_alike read t u SameFields.equal = refl
fields_alike read t u (SameFields.behind s) = fields_alike read _ _ s
fields_alike read t u (SameFields.same_pairs a b) = named-pairs read a ∙ sym (named-pairs read b)

-- entries

entry_alike : ReadAlike SameEntry ids_with_fields
entry_alike t u SameEntry.equal = refl
entry_alike t u (SameEntry.behind s) = entry_alike _ _ s
entry_alike t u (SameEntry.of_two a b s) = named-pairs some_fields a ∙ rw (fields_alike _ _ _ s) (sym (named-pairs some_fields b))
entry_alike t u (SameEntry.of_four s) = rw (fields_alike _ _ _ s) refl

no_claim : {t k v : Tree} → SpellsPairs t (pair k v no_pairs) → claimed_entry t ≡ None
no_claim (by_map ps) = refl
no_claim (by_array ps) = refl

claimed_alike : ReadAlike SameEntry claimed_entry
claimed_alike t u SameEntry.equal = refl
claimed_alike t u (SameEntry.behind s) = refl
claimed_alike t u (SameEntry.of_two a b s) = no_claim a ∙ sym (no_claim b)
claimed_alike t u (SameEntry.of_four s) = rw (fields_alike _ _ _ s) refl

lists_alike : {M : Type 0} (read : Tree → Option M) → ReadAlike SameEntry read → ReadAlike SameEntries (list_of read)
lists_alike read alike t u SameEntries.equal = refl
lists_alike read alike t u (SameEntries.behind s) = lists_alike read alike _ _ s
lists_alike read alike t u (SameEntries.in_arrays s) = traverse-items SameEntry read alike s
lists_alike read alike t u (SameEntries.in_sets s) = traverse-items SameEntry read alike s
lists_alike read alike t u (SameEntries.in_pairs a b s) = list_of-alike SameFields SameEntry (λ v. SameFields.equal) (λ t u k v w a b s. SameEntry.of_two a b s) read alike a b s

entries_alike : ReadAlike SameEntries entries
entries_alike t u s = ap (option_map (flat_map (each without_times))) (lists_alike ids_with_fields entry_alike t u s)

claimed_entries_alike : ReadAlike SameEntries claimed_entries
claimed_entries_alike t u s = ap (option_map (each with_times)) (lists_alike claimed_entry claimed_alike t u s)

-- rows

row_alike : (form : Tree → Option (List Entry)) → ReadAlike SameEntries form → ReadAlike SameRow (named form)
row_alike form alike t u SameRow.equal = refl
row_alike form alike t u (SameRow.behind s) = row_alike form alike _ _ s
row_alike form alike t u (SameRow.of_pairs a b s) = named-pairs form a ∙ ap (option_map (insert_all bytes_eq [])) (traverse-values SameEntries a_text form alike s) ∙ sym (named-pairs form b)

row_lists_alike : (form : Tree → Option (List Entry)) → ReadAlike SameEntries form → ReadAlike SameRows (list_of (named form))
row_lists_alike form alike t u SameRows.equal = refl
row_lists_alike form alike t u (SameRows.behind s) = row_lists_alike form alike _ _ s
row_lists_alike form alike t u (SameRows.in_arrays s) = traverse-items SameRow (named form) (row_alike form alike) s
row_lists_alike form alike t u (SameRows.in_sets s) = traverse-items SameRow (named form) (row_alike form alike) s
row_lists_alike form alike t u (SameRows.in_pairs a b s) = list_of-alike SameEntries SameRow (λ v. SameEntries.equal) (λ t u k v w a b s. SameRow.of_pairs a b (value s no_values)) (named form) (row_alike form alike) a b s

rows_alike : (form : Tree → Option (List Entry)) → ReadAlike SameEntries form → ReadAlike SameRows (rows form)
rows_alike form alike t u s = ap (option_map (flat_map (each row))) (row_lists_alike form alike t u s)

read_alike : ReadAlike SameRows read_reply
read_alike t u s = rw (rows_alike entries entries_alike t u s, rows_alike claimed_entries claimed_entries_alike t u s) refl

pub respelled_read_alike : RespelledReadAlike
respelled_read_alike = (read_alike, entries_alike, entries_alike)
