-- Commands as lists of arguments, as the routing looks at them (documentation of the crate `redis`).
use Rattle.std.specs.Prelude.{ℕ, ◌+◌, ◌^◌, Bool, true, false, nat_lt, if◌then◌else◌, List, [], ◌∷◌, ◌++◌, map, Option, Some, None, option_map, option_and_then, position}
use Rattle.std.specs.List.{list_any}
use Rattle.std.specs.Str.{str_eq_ignore_ascii_case}
use Rattle.resp_core.specs.Trees.{Tree, bulk}
use Rattle.resp_args.specs.declared.cmd.Arg.{Arg}
use Rattle.resp_args.specs.declared.cmd.Arg.TheVariants.{Simple, Cursor}
use Rattle.cluster_routing.specs.SlotsReply.{array_items}

-- the arguments of a command: each is bytes, or a gap
abbrev pub Args : Type 0
Args = List (Arg (List ℕ))

-- whether a text is one of these words, whatever the case of its ASCII letters
abbrev pub is_one_of : List (List ℕ) → List ℕ → Bool
is_one_of words text = list_any (λ word. str_eq_ignore_ascii_case word text) words

-- the bytes of an argument; none where it is missing or a gap
abbrev pub bytes_of : Option (Arg (List ℕ)) → Option (List ℕ)
bytes_of (Some (Simple bytes)) = Some bytes
bytes_of _ = None

abbrev pub is_word : List ℕ → Arg (List ℕ) → Bool
is_word word (Simple text) = str_eq_ignore_ascii_case word text
is_word word Cursor = false

-- a place behind which a `usize` can still name one
abbrev pub if_counted : ℕ → Option ℕ
if_counted place = if nat_lt (place + 1) (2 ^ 64) then Some place else None

-- the place of the first argument that is the word
abbrev pub place_of : List ℕ → Args → Option ℕ
place_of word args = option_and_then if_counted (position (is_word word) args)

-- the bytes of all arguments; none where one is a gap
abbrev pub all_bytes : Args → Option (List (List ℕ))
all_bytes [] = Some []
all_bytes (Simple bytes ∷ args) = option_map (λ rest. bytes ∷ rest) (all_bytes args)
all_bytes (Cursor ∷ args) = None

-- arguments by their bytes; a gap has none
abbrev pub texts_in : Args → List (Option (List ℕ))
texts_in args = map (λ (a : Arg (List ℕ)). bytes_of (Some a)) args

-- a reply as a command: the items of an array, of which all but bulks are gaps
abbrev pub arg_in : Tree → Arg (List ℕ)
arg_in (bulk bytes) = Simple bytes
arg_in _ = Cursor

abbrev pub args_in_items : Option (List Tree) → Args
args_in_items None = []
args_in_items (Some items) = map arg_in items

abbrev pub args_in : Tree → Args
args_in reply = args_in_items (array_items reply)

-- a command's name by its first argument: the word, of a family with a space and the second argument behind
-- it
abbrev pub name_by : List ℕ → Bool → Option (List ℕ) → List ℕ
name_by word true (Some second) = word ++ 32 ∷ second
name_by word _ _ = word
