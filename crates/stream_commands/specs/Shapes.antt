-- The conversions of replies that the records of stream commands are read with, each looking through
-- attributes first. Source: the documentation of the crate `redis`, `FromRedisValue`.
use Rattle.std.specs.Prelude.{ℕ, ℤ, List, Option, Some, None}
use Rattle.std.specs.Str.{bytes_eq}
use Rattle.resp_core.specs.Trees.{Tree}
use Rattle.resp_args.specs.Convert.{plain, text, unsigned_count, optional, sequence, fields}

-- a text
abbrev pub a_text : Tree → Option (List ℕ)
a_text t = text (plain t)

-- a number of a machine word
abbrev pub a_count : Tree → Option ℤ
a_count t = unsigned_count 64 (plain t)

-- a number of so many bits
abbrev pub a_count_of : ℕ → Tree → Option ℤ
a_count_of bits t = unsigned_count bits (plain t)

-- any tree, as it is
abbrev pub a_tree : Tree → Option Tree
a_tree t = Some t

-- nothing, or what is read
abbrev pub perhaps : {M : Type 0} → (Tree → Option M) → Tree → Option (Option M)
perhaps read t = optional read (plain t)

-- one after another
abbrev pub list_of : {M : Type 0} → (Tree → Option M) → Tree → Option (List M)
list_of read t = sequence read None (plain t)

-- what is read, each under a text; a repeated text keeps its first place and its last value
abbrev pub named : {M : Type 0} → (Tree → Option M) → Tree → Option (List (List ℕ × M))
named read t = fields a_text read bytes_eq (plain t)

-- the first reading, or where it gives nothing the second
abbrev pub or_else : {M : Type 0} → Option M → Option M → Option M
or_else (Some m) other = Some m
or_else None other = other

-- what is made of some parts, if none of them is refused: `made of first and second and ..`
infixl 60 ◌and◌
abbrev pub ◌and◌ : {A B : Type 0} → Option (A → B) → Option A → Option B
Some make and Some part = Some (make part)
Some make and None = None
None and part = None
