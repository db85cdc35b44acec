-- A reply as a server writes it in each protocol, what is read of that, and which replies can be written.
-- Sources: the Redis serialization protocol specification
-- (https://redis.io/docs/latest/develop/reference/protocol-spec/) and the RESP3 specification
-- (https://github.com/redis/redis-specifications). For a tree that RESP2 has no type for stands what a Redis
-- server sends in RESP2.
use Rattle.std.specs.Prelude.{◌≡◌, ℕ, suc, ◌-◌, ◌*◌, ◌^◌, ℤ, pos, negsuc, Bool, true, false, ◌==◌, ◌&&◌, if◌then◌else◌, nat_lt, List, [], ◌∷◌, ◌++◌, length, map, Option, Some, None, Result, Ok, Err, MatchResult, codes, decimal}
use Rattle.std.specs.Fmt.{signed_decimal}
use Rattle.std.specs.List.{before_first, after_first, list_all}
use Rattle.std.specs.Str.{is_utf8, trim, bytes_eq}
use Rattle.resp_core.specs.declared.value.write.Protocol.{Protocol}
use Rattle.resp_core.specs.declared.value.write.Protocol.TheVariants.{Resp2, Resp3}
use Rattle.resp_core.specs.Trees.{Format, Kind, Tree, nil, int, bulk, array, simple, okay, set, attribute, double, boolean, verbatim, big_number, push, server_error, Trees, no_trees, tree, Pairs, no_pairs, pair}
use Rattle.resp_core.specs.Trees as trees
use Rattle.resp_core.specs.Table.{is_double, format_of, kind_named, error_tree}
use Rattle.resp_core.specs.Printed.{format_text, kind_text, joined}
use Rattle.resp_core.specs.Grammar.{crlf, Spells}
use Rattle.resp_core.specs.Reading.{Read, line_at}

-- The text was put behind a buffer's bytes; or memory was refused, and some bytes were put there.
abbrev pub Appends : {T E : Type 0} → List ℕ → List ℕ → List ℕ → Result T E → Type 0
Appends old new text result = MatchResult result (λ _. new ≡ old ++ text) (λ _. (more : List ℕ) × (new ≡ old ++ more))

-- ---- lines and counted bytes

-- Type bytes are written as numbers: 33 is !, 36 $, 37 %, 40 (, 42 *, 43 +, 44 comma, 45 -, 58 :, 61 =, 62 >,
-- 124 | and 126 ~. In texts 10 is LF, 13 CR, 32 a space and 58 a colon.

-- a type byte, a line, and its end
abbrev pub line_text : ℕ → List ℕ → List ℕ
line_text mark line = mark ∷ (line ++ crlf)

abbrev pub count_text : ℕ → ℕ → List ℕ
count_text mark n = line_text mark (decimal n)

-- a type byte, the number of the bytes, and the bytes
abbrev pub counted_text : ℕ → List ℕ → List ℕ
counted_text mark bytes = count_text mark (length bytes) ++ (bytes ++ crlf)

abbrev pub bulk_text : List ℕ → List ℕ
bulk_text bytes = counted_text 36 bytes

abbrev pub has_no_end : Read (List ℕ) → Bool
has_no_end (Ok x) = false
has_no_end (Err e) = true

-- no line ends within the text
abbrev pub one_line : List ℕ → Bool
one_line text = has_no_end (line_at text)

-- ---- what has no parts

abbrev pub nil_text : Protocol → List ℕ
nil_text Resp2 = codes "$-1\r\n"
nil_text Resp3 = codes "_\r\n"

abbrev pub simple_text : List ℕ → List ℕ
simple_text text = if one_line text then line_text 43 text else bulk_text text

abbrev pub simple_form : List ℕ → Tree
simple_form text = if one_line text then (if bytes_eq text (codes "OK") then okay else simple text)
    else bulk text

abbrev pub boolean_text : Protocol → Bool → List ℕ
boolean_text Resp2 b = if b then codes ":1\r\n" else codes ":0\r\n"
boolean_text Resp3 b = if b then codes "#t\r\n" else codes "#f\r\n"

abbrev pub boolean_form : Protocol → Bool → Tree
boolean_form Resp2 b = if b then int (pos 1) else int (pos 0)
boolean_form Resp3 b = boolean b

-- the text can stand in the line of a double
abbrev pub is_double_line : List ℕ → Bool
is_double_line text = one_line text && is_double (trim text)

abbrev pub double_text : Protocol → List ℕ → List ℕ
double_text Resp2 text = bulk_text text
double_text Resp3 text = if is_double_line text then line_text 44 text else bulk_text text

abbrev pub double_form : Protocol → List ℕ → Tree
double_form Resp2 text = bulk text
double_form Resp3 text = if is_double_line text then double (trim text) else bulk text

-- the bytes can stand in the line of a big number
abbrev pub is_text_line : List ℕ → Bool
is_text_line bytes = if is_utf8 bytes then one_line bytes else false

abbrev pub big_text : Protocol → List ℕ → List ℕ
big_text Resp2 bytes = bulk_text bytes
big_text Resp3 bytes = if is_text_line bytes then line_text 40 bytes else bulk_text bytes

abbrev pub big_form : Protocol → List ℕ → Tree
big_form Resp2 bytes = bulk bytes
big_form Resp3 bytes = if is_text_line bytes then big_number bytes else bulk bytes

-- a format, a colon, and a text
abbrev pub marked_up : Format → List ℕ → List ℕ
marked_up format text = format_text format ++ (58 ∷ text)

abbrev pub verbatim_text : Protocol → Format → List ℕ → List ℕ
verbatim_text Resp2 format text = bulk_text text
verbatim_text Resp3 format text = counted_text 61 (marked_up format text)

abbrev pub verbatim_in : List ℕ → Tree
verbatim_in bytes = verbatim (format_of (before_first (λ b. b == 58) bytes))
    (after_first (λ b. b == 58) bytes)

abbrev pub verbatim_form : Protocol → Format → List ℕ → Tree
verbatim_form Resp2 format text = bulk text
verbatim_form Resp3 format text = verbatim_in (marked_up format text)

-- a byte that ends no line
abbrev pub is_inner : ℕ → Bool
is_inner b = if b == 13 then false else if b == 10 then false else true

abbrev pub space : ℕ → ℕ
space b = if is_inner b then b else 32

-- ends of lines are spaces
abbrev pub spaced : List ℕ → List ℕ
spaced bytes = map space bytes

abbrev pub failed_text : Protocol → List ℕ → List ℕ
failed_text Resp2 text = line_text 45 (spaced text)
failed_text Resp3 text = if list_all is_inner text then line_text 45 text else counted_text 33 text

abbrev pub failed_form : Protocol → List ℕ → Tree
failed_form Resp2 text = error_tree (spaced text)
failed_form Resp3 text = error_tree text

-- ---- trees

abbrev pub count : Trees → ℕ
count no_trees = 0
count (tree t ts) = suc (count ts)

abbrev pub pair_count : Pairs → ℕ
pair_count no_pairs = 0
pair_count (pair k v ps) = suc (pair_count ps)

-- keys and values one after the other, and others behind them
abbrev pub flat_onto : Pairs → Trees → Trees
flat_onto no_pairs rest = rest
flat_onto (pair k v ps) rest = tree k (tree v (flat_onto ps rest))

abbrev pub map_head : Protocol → ℕ → List ℕ
map_head Resp2 n = count_text 42 (2 * n)
map_head Resp3 n = count_text 37 n

abbrev pub set_head : Protocol → ℕ → List ℕ
set_head Resp2 n = count_text 42 n
set_head Resp3 n = count_text 126 n

abbrev pub push_head : Protocol → ℕ → List ℕ
push_head Resp2 n = count_text 42 n
push_head Resp3 n = count_text 62 n

-- what stands before the value that an attribute is about
abbrev pub beside : Protocol → ℕ → List ℕ → List ℕ
beside Resp2 n pairs = []
beside Resp3 n pairs = count_text 124 n ++ pairs

unfoldable mutual
  -- the bytes that the tree is written as
  pub written : Protocol → Tree → List ℕ
  written p nil = nil_text p
  written p (int n) = line_text 58 (signed_decimal n)
  written p (bulk bytes) = bulk_text bytes
  written p (array ts) = count_text 42 (count ts) ++ written_all p ts
  written p (simple text) = simple_text text
  written p okay = codes "+OK\r\n"
  written p (trees.map ps) = map_head p (pair_count ps) ++ written_pairs p ps
  written p (attribute t ps) = beside p (pair_count ps) (written_pairs p ps) ++ written p t
  written p (set ts) = set_head p (count ts) ++ written_all p ts
  written p (double text) = double_text p text
  written p (boolean b) = boolean_text p b
  written p (verbatim format text) = verbatim_text p format text
  written p (big_number bytes) = big_text p bytes
  written p (push kind ts) = push_head p (suc (count ts))
      ++ (bulk_text (kind_text kind) ++ written_all p ts)
  written p (server_error e) = failed_text p (joined e)

  pub written_all : Protocol → Trees → List ℕ
  written_all p no_trees = []
  written_all p (tree t ts) = written p t ++ written_all p ts

  pub written_pairs : Protocol → Pairs → List ℕ
  written_pairs p no_pairs = []
  written_pairs p (pair k v ps) = written p k ++ (written p v ++ written_pairs p ps)

abbrev pub map_form : Protocol → Pairs → Tree
map_form Resp2 ps = array (flat_onto ps no_trees)
map_form Resp3 ps = trees.map ps

abbrev pub set_form : Protocol → Trees → Tree
set_form Resp2 ts = array ts
set_form Resp3 ts = set ts

abbrev pub push_form : Protocol → Kind → Trees → Tree
push_form Resp2 kind ts = array (tree (bulk (kind_text kind)) ts)
push_form Resp3 kind ts = push (kind_named (kind_text kind)) ts

abbrev pub attribute_form : Protocol → Tree → Pairs → Tree
attribute_form Resp2 t ps = t
attribute_form Resp3 t ps = attribute t ps

unfoldable mutual
  -- the tree that is read of what is written: in RESP2 one without the types that it has not
  pub form : Protocol → Tree → Tree
  form p nil = nil
  form p (int n) = int n
  form p (bulk bytes) = bulk bytes
  form p (array ts) = array (forms p ts)
  form p (simple text) = simple_form text
  form p okay = okay
  form p (trees.map ps) = map_form p (pair_forms p ps)
  form p (attribute t ps) = attribute_form p (form p t) (pair_forms p ps)
  form p (set ts) = set_form p (forms p ts)
  form p (double text) = double_form p text
  form p (boolean b) = boolean_form p b
  form p (verbatim format text) = verbatim_form p format text
  form p (big_number bytes) = big_form p bytes
  form p (push kind ts) = push_form p kind (forms p ts)
  form p (server_error e) = failed_form p (joined e)

  pub forms : Protocol → Trees → Trees
  forms p no_trees = no_trees
  forms p (tree t ts) = tree (form p t) (forms p ts)

  pub pair_forms : Protocol → Pairs → Pairs
  pair_forms p no_pairs = no_pairs
  pair_forms p (pair k v ps) = pair (form p k) (form p v) (pair_forms p ps)

-- ---- what can be written

-- fewer than 2^62 bytes or values
abbrev pub is_few : ℕ → Bool
is_few n = nat_lt n (2 ^ 62)

abbrev pub is_text : List ℕ → Bool
is_text text = is_few (length text) && is_utf8 text

abbrev pub is_detail : Option (List ℕ) → Bool
is_detail None = true
is_detail (Some text) = is_text text

abbrev pub is_number : ℤ → Bool
is_number (pos n) = nat_lt n (2 ^ 63)
is_number (negsuc n) = nat_lt n (2 ^ 63)

-- the pairs of an attribute can be written, or are left out
abbrev pub fits_beside : Protocol → Bool → Bool
fits_beside Resp2 pairs = true
fits_beside Resp3 pairs = pairs

-- an attribute counts as a level in both protocols, so that what can be written nests no deeper than the
-- limit
unfoldable mutual
  -- the tree can be written where so many levels may stand in it
  pub fits_in : Protocol → ℕ → Tree → Bool
  fits_in p below nil = true
  fits_in p below (int n) = is_number n
  fits_in p below (bulk bytes) = is_few (length bytes)
  fits_in p below (array ts) = is_few (count ts) && fits_all p below ts
  fits_in p below (simple text) = is_text text
  fits_in p below okay = true
  fits_in p below (trees.map ps) = is_few (pair_count ps) && fits_pairs p below ps
  fits_in p below (attribute t ps) = fits_beside p (is_few (pair_count ps) && fits_pairs p below ps)
      && (nat_lt 0 below && fits_in p (below - 1) t)
  fits_in p below (set ts) = is_few (count ts) && fits_all p below ts
  fits_in p below (double text) = is_text text
  fits_in p below (boolean b) = true
  fits_in p below (verbatim format text) = is_text (format_text format) && is_text text
  fits_in p below (big_number bytes) = is_few (length bytes)
  fits_in p below (push kind ts) = (nat_lt 0 below && is_text (kind_text kind))
      && (is_few (count ts) && fits_all p below ts)
  fits_in p below (server_error e) = is_text e.code && is_detail e.detail

  pub fits_all : Protocol → ℕ → Trees → Bool
  fits_all p levels no_trees = true
  fits_all p levels (tree t ts) = (nat_lt 0 levels && fits_in p (levels - 1) t) && fits_all p levels ts

  pub fits_pairs : Protocol → ℕ → Pairs → Bool
  fits_pairs p levels no_pairs = true
  fits_pairs p levels (pair k v ps) = (nat_lt 0 levels && fits_in p (levels - 1) k)
      && ((nat_lt 0 levels && fits_in p (levels - 1) v) && fits_pairs p levels ps)

-- The tree can be written where values may nest so deep: the kind of a push and the value of an attribute each
-- stand one level below it, and no part has 2^62 bytes or values or more.
abbrev pub fits : Protocol → ℕ → Tree → Bool
fits p limit t = nat_lt 0 limit && fits_in p (limit - 1) t

-- ---- laws

-- what is written is read as `form` says, and nothing is left over, under each limit of levels that it fits
abbrev pub WrittenIsRead : Type 0
WrittenIsRead = (p : Protocol) (limit : ℕ) (t : Tree) → fits p limit t ≡ true
    → Spells limit 1 (written p t) (form p t)

-- every reply that can be read is its own form in RESP3
abbrev pub ReadAsItself : Type 0
ReadAsItself = (limit level : ℕ) (bytes : List ℕ) (t : Tree) → Spells limit level bytes t → form Resp3 t ≡ t
