-- What a reply is read as. Each reading is a partial function of the reply's tree; where it gives nothing,
-- the conversion is refused. Source: the documentation of the crate `redis`, `FromRedisValue`; numbers and
-- texts are not made of doubles and big numbers.
use Rattle.std.specs.Prelude.{◌≡◌, ℕ, ℤ, pos, negsuc, List, [], ◌∷◌, Bool, true, false, Option, Some, None, Result, Ok, Err, option_map, option_and_then, map as each, codes, ⊤, not, if◌then◌else◌, ◌==◌}
use Rattle.std.specs.Str.{is_utf8}
use Rattle.std.specs.Fmt.{signed_decimal}
use Rattle.indexmap.specs.IndexMap.{insert_all}
use Rattle.resp_core.specs.Trees.{Tree, nil, int, bulk, array, simple, okay, map, attribute, set, boolean, verbatim, Trees, no_trees, tree, no_pairs, pair}
use Rattle.resp_core.specs.Parts.{pair_list, pairs_in}
use Rattle.resp_core.specs.Errors.{Unreadable, refused, no_memory}
use Rattle.resp_args.specs.Numbers.{unsigned_number, unsigned_text, signed_number, signed_text}

-- what a conversion answers: the value that the tree is read as, a refusal exactly where there is none, or
-- want of memory
abbrev pub Answers : {M S : Type 0} → (S → M) → Option M → Result S Unreadable → Type 0
Answers meaning wanted (Ok value) = wanted ≡ Some (meaning value)
Answers meaning wanted (Err (refused text)) = wanted ≡ None
Answers meaning wanted (Err no_memory) = ⊤

-- The tree behind its attributes. Every conversion looks there, but those of tuples, of `Value` and of `()`.
abbrev pub plain : Tree → Tree
plain (attribute inner attributes) = plain inner
plain t = t

abbrev pub items : Trees → List Tree
items no_trees = []
items (tree t ts) = t ∷ items ts

-- each in turn, if none is refused
abbrev pub traverse : {A B : Type 0} → (A → Option B) → List A → Option (List B)
traverse f [] = Some []
traverse f (x ∷ xs) = option_and_then (λ y. option_map (λ ys. y ∷ ys) (traverse f xs)) (f x)

-- Truth

-- `1` is true and `0` false
abbrev pub truth_of_text : List ℕ → Option Bool
truth_of_text [] = None
truth_of_text (c ∷ []) = if c == 49 then Some true else if c == 48 then Some false else None
truth_of_text (c ∷ d ∷ cs) = None

abbrev pub is_zero : ℤ → Bool
is_zero (pos n) = n == 0
is_zero (negsuc n) = false

abbrev pub truth : Tree → Option Bool
truth nil = Some false
truth (int n) = Some (not (is_zero n))
truth (boolean b) = Some b
truth okay = Some true
truth (simple s) = truth_of_text s
truth (bulk b) = truth_of_text b
truth t = None

-- Text

-- the bytes, if they are UTF-8
abbrev pub utf8 : List ℕ → Option (List ℕ)
utf8 b = if is_utf8 b then Some b else None

abbrev pub text : Tree → Option (List ℕ)
text (bulk b) = utf8 b
text (simple s) = Some s
text (verbatim format s) = Some s
text okay = Some (codes "OK")
text (int n) = Some (signed_decimal n)
text t = None

-- Count: an integer that fits the type, or a text that the type reads

abbrev pub count : (ℤ → Option ℤ) → (List ℕ → Option ℤ) → Tree → Option ℤ
count fits reads (int n) = fits n
count fits reads (simple s) = reads s
count fits reads (bulk b) = option_and_then reads (utf8 b)
count fits reads t = None

abbrev pub unsigned_count : ℕ → Tree → Option ℤ
unsigned_count bits = count (unsigned_number bits) (unsigned_text bits)

abbrev pub signed_count : ℕ → Tree → Option ℤ
signed_count bits = count (signed_number bits) (signed_text bits)

-- Optional: nothing, or a value

abbrev pub optional : {M : Type 0} → (Tree → Option M) → Tree → Option (Option M)
optional convert nil = Some None
optional convert t = option_map Some (convert t)

-- Sequence

-- a pair as a map of its own
abbrev pub one_pair : Tree × Tree → Tree
one_pair p = map (pair p.0 p.1 no_pairs)

-- a bulk as itself alone
abbrev pub alone : {M : Type 0} → (Tree → Option M) → List ℕ → Option (List M)
alone convert b = option_map (λ m. m ∷ []) (convert (bulk b))

-- a bulk as its bytes, where each byte is an item, and else as itself alone
abbrev pub bulk_items : {M : Type 0} → (Tree → Option M) → Option (ℕ → M) → List ℕ → Option (List M)
bulk_items convert (Some item) b = Some (each item b)
bulk_items convert None b = alone convert b

-- item by item, given what a byte means, where it is an item
abbrev pub sequence : {M : Type 0} → (Tree → Option M) → Option (ℕ → M) → Tree → Option (List M)
sequence convert byte (array ts) = traverse convert (items ts)
sequence convert byte (set ts) = traverse convert (items ts)
sequence convert byte nil = Some []
sequence convert byte (map ps) = traverse (λ p. convert (one_pair p)) (pair_list ps)
sequence convert byte (bulk b) = bulk_items convert byte b
sequence convert byte t = None

-- Fields

abbrev pub both : {M N : Type 0} → Option M → Option N → Option (M × N)
both (Some m) (Some n) = Some (m, n)
both (Some m) None = None
both None n = None

-- both parts of a pair
abbrev pub part_by_part : {M N : Type 0} → (Tree → Option M) → (Tree → Option N) → Tree × Tree
    → Option (M × N)
part_by_part f g p = both (f p.0) (g p.1)

-- every pair is read; a repeated name keeps its first place and its last value
abbrev pub fields_of : {M N : Type 0} → (Tree → Option M) → (Tree → Option N) → (M → M → Bool)
    → List (Tree × Tree) → Option (List (M × N))
fields_of f g same ps = option_map (insert_all same []) (traverse (part_by_part f g) ps)

abbrev pub fields : {M N : Type 0} → (Tree → Option M) → (Tree → Option N) → (M → M → Bool) → Tree
    → Option (List (M × N))
fields f g same nil = Some []
fields f g same t = option_and_then (fields_of f g same) (pairs_in t)

-- Tuple: an array of exactly that length, for two parts also a map of one pair; its own attributes are not
-- looked through

abbrev pub pair_of : {M N : Type 0} → (Tree → Option M) → (Tree → Option N) → List Tree → Option (M × N)
pair_of f g (a ∷ b ∷ []) = both (f a) (g b)
pair_of f g ts = None

abbrev pub lone_pair : {M N : Type 0} → (Tree → Option M) → (Tree → Option N) → List (Tree × Tree)
    → Option (M × N)
lone_pair f g (p ∷ []) = both (f p.0) (g p.1)
lone_pair f g ps = None

-- an array of two items, or a map of one pair
abbrev pub tuple2 : {M N : Type 0} → (Tree → Option M) → (Tree → Option N) → Tree → Option (M × N)
tuple2 f g (array ts) = pair_of f g (items ts)
tuple2 f g (map ps) = lone_pair f g (pair_list ps)
tuple2 f g t = None

abbrev pub three : {M N O : Type 0} → Option M → Option N → Option O → Option (M × N × O)
three (Some m) (Some n) (Some o) = Some (m, n, o)
three m n o = None

abbrev pub triple_of : {M N O : Type 0} → (Tree → Option M) → (Tree → Option N) → (Tree → Option O)
    → List Tree → Option (M × N × O)
triple_of f g h (a ∷ b ∷ c ∷ []) = three (f a) (g b) (h c)
triple_of f g h ts = None

-- an array of three items
abbrev pub tuple3 : {M N O : Type 0} → (Tree → Option M) → (Tree → Option N) → (Tree → Option O) → Tree
    → Option (M × N × O)
tuple3 f g h (array ts) = triple_of f g h (items ts)
tuple3 f g h t = None

abbrev pub four : {M N O P : Type 0} → Option M → Option N → Option O → Option P → Option (M × N × O × P)
four (Some m) (Some n) (Some o) (Some p) = Some (m, n, o, p)
four m n o p = None

abbrev pub quadruple_of : {M N O P : Type 0} → (Tree → Option M) → (Tree → Option N) → (Tree → Option O)
    → (Tree → Option P) → List Tree → Option (M × N × O × P)
quadruple_of f g h k (a ∷ b ∷ c ∷ d ∷ []) = four (f a) (g b) (h c) (k d)
quadruple_of f g h k ts = None

-- an array of four items
abbrev pub tuple4 : {M N O P : Type 0} → (Tree → Option M) → (Tree → Option N) → (Tree → Option O)
    → (Tree → Option P) → Tree → Option (M × N × O × P)
tuple4 f g h k (array ts) = quadruple_of f g h k (items ts)
tuple4 f g h k t = None
