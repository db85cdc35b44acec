-- What an information reply tells under a name: other names are passed over.
-- Source: the Redis documentation of XINFO (Return information).
use Rattle.std.specs.Prelude.{ℕ, ℤ, pos, List, [], ◌∷◌, Option, Some, None, if◌then◌else◌}
use Rattle.std.specs.Str.{bytes_eq}
use Rattle.resp_core.specs.Trees.{Tree}
use Rattle.stream_commands.specs.Shapes.{a_text, a_count_of, a_count, perhaps}
use Rattle.stream_commands.specs.Entries.{Fields}

-- the tree under the name
abbrev pub under : List ℕ → Fields → Option Tree
under name [] = None
under name (f ∷ fs) = if bytes_eq name f.0 then Some f.1 else under name fs

-- what is read of a tree that is there, or the value that stands for a missing one
abbrev pub read_or : {M : Type 0} → (Tree → Option M) → M → Option Tree → Option M
read_or read missing (Some t) = read t
read_or read missing None = Some missing

-- a text, empty where it is missing
abbrev pub text_at : List ℕ → Fields → Option (List ℕ)
text_at name fields = read_or a_text [] (under name fields)

-- a number of so many bits, 0 where it is missing
abbrev pub count_of_at : ℕ → List ℕ → Fields → Option ℤ
count_of_at bits name fields = read_or (a_count_of bits) (pos 0) (under name fields)

abbrev pub count_at : List ℕ → Fields → Option ℤ
count_at = count_of_at 64

-- a number that may be left open
abbrev pub perhaps_at : List ℕ → Fields → Option (Option ℤ)
perhaps_at name fields = read_or (perhaps a_count) None (under name fields)
