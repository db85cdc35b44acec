-- Examples of the definitions, each checked by computation.
use Rattle.std.specs.Prelude.{◌≡◌, pos, [], ◌∷◌, true, false, Option, Some, None, codes, refl}
use Rattle.std.specs.Fmt.{digits}
use Rattle.std.specs.Str.{bytes_eq, is_utf8, chars}
use lib.Utf8.{encode}
use Rattle.resp_core.specs.Trees.{Tree, int, bulk, array, okay, map, attribute, Trees, no_trees, tree, no_pairs, pair}
use Rattle.resp_args.specs.declared.cmd.Arg.TheVariants.{Simple, Cursor}
use Rattle.resp_args.specs.Command.{Command}
use Rattle.resp_args.specs.Packed.{packed, sent}
use Rattle.resp_args.specs.Convert.{plain, truth, text, signed_count, unsigned_count, sequence, fields, tuple2}

abbrev pub scan : Command
scan = record {
  args = Simple (codes "SSCAN") ∷ Simple (codes "a") ∷ Cursor ∷ [];
  cursor = Some 42;
  no_response = false;
}

pub sends_the_number_in_the_gap : sent scan ≡ codes "SSCAN" ∷ codes "a" ∷ codes "42" ∷ []
unfolding digits
sends_the_number_in_the_gap = refl

pub packs_a_scan : packed (sent scan) ≡ codes "*3\r\n$5\r\nSSCAN\r\n$1\r\na\r\n$2\r\n42\r\n"
unfolding digits
packs_a_scan = refl

pub packs_three_arguments : packed (codes "SET" ∷ codes "my_key" ∷ codes "42" ∷ [])
    ≡ codes "*3\r\n$3\r\nSET\r\n$6\r\nmy_key\r\n$2\r\n42\r\n"
unfolding digits
packs_three_arguments = refl

abbrev pub two : Tree → Tree → Trees
two a b = tree a (tree b no_trees)

pub keeps_the_last_value_of_a_name : fields text (signed_count 64) bytes_eq
    (array (tree (bulk (codes "a")) (tree (int (pos 1)) (two (bulk (codes "a")) (int (pos 2))))))
    ≡ Some ((codes "a", pos 2) ∷ [])
unfolding is_utf8 chars encode
keeps_the_last_value_of_a_name = refl

pub looks_through_attributes : signed_count 64 (plain (attribute (int (pos 5)) no_pairs)) ≡ Some (pos 5)
looks_through_attributes = refl

pub looks_not_through_them_for_a_tuple : tuple2 (signed_count 64) (signed_count 64)
    (attribute (array (two (int (pos 1)) (int (pos 2)))) no_pairs) ≡ None
looks_not_through_them_for_a_tuple = refl

pub refuses_a_number_that_does_not_fit : unsigned_count 8 (int (pos 300)) ≡ None
refuses_a_number_that_does_not_fit = refl

pub reads_okay_as_a_text : text okay ≡ Some (codes "OK")
reads_okay_as_a_text = refl

pub reads_two_as_true : truth (int (pos 2)) ≡ Some true
reads_two_as_true = refl

pub reads_a_map_of_one_pair_as_a_tuple : tuple2 text (signed_count 64)
    (map (pair okay (int (pos 1)) no_pairs)) ≡ Some (codes "OK", pos 1)
reads_a_map_of_one_pair_as_a_tuple = refl

abbrev pub any : Tree → Option Tree
any t = Some t

pub reads_a_map_as_its_pairs : sequence any None
    (map (pair okay (int (pos 1)) (pair okay (int (pos 2)) no_pairs)))
    ≡ Some (map (pair okay (int (pos 1)) no_pairs) ∷ map (pair okay (int (pos 2)) no_pairs) ∷ [])
reads_a_map_as_its_pairs = refl

pub reads_a_bulk_alone_as_a_list_of_one : sequence text None (bulk (codes "ab")) ≡ Some (codes "ab" ∷ [])
unfolding is_utf8 chars encode
reads_a_bulk_alone_as_a_list_of_one = refl

pub reads_a_bulk_as_its_bytes : sequence (unsigned_count 8) (Some pos) (bulk (codes "ab"))
    ≡ Some (pos 97 ∷ pos 98 ∷ [])
reads_a_bulk_as_its_bytes = refl
