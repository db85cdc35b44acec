-- What the steps of a join say of the table in which it gathers rows.
use Rattle.std.specs.Prelude.{◌≡◌, ℕ, Bool, true, false, ◌&&◌, nat_eq, is_none, List, [], ◌∷◌, ◌++◌, map as each, slice_index_or, Option, Some, None, Vec}
use Rattle.std.specs.Global.{Global}
use Rattle.std.specs.List.{list_any}
use Rattle.stream_commands.specs.Join.{keys_at, name_none_twice, name_only, rows_of}
use Rattle.stream_commands.specs.ReadReply.{Row}
use Rattle.stream_commands.specs.RecordViews.{row_view}
use Rattle.stream_commands.specs.declared.records.read.StreamKey.{StreamKey}

-- the positions of the streams of each part
abbrev pub positions : List (Vec ℕ Global) → List (List ℕ)
positions parts = each (λ (v : Vec ℕ Global). v.items) parts

abbrev pub row_list : Option StreamKey → List Row
row_list None = []
row_list (Some row) = row_view row ∷ []

-- the table has at each key's position the rows that name the key
abbrev pub Holds : List (List ℕ) → List Row → List (Option StreamKey) → Type 0
Holds keys rows table = each row_list table ≡ each (rows_of rows) keys

-- the table has these rows beside those that it had, and each of them names a key of the part
abbrev pub ArePut : List (List ℕ) → List ℕ → (had rows : List Row) → List (Option StreamKey) → Type 0
ArePut keys part had rows table = (name_only (keys_at keys part) rows ≡ true)
    × Holds keys (had ++ rows) table

-- one of these rows names no key of the part, or two of all rows name one key
abbrev pub DoNotFit : List (List ℕ) → List ℕ → (had rows : List Row) → Type 0
DoNotFit keys part had rows =
    (name_only (keys_at keys part) rows && name_none_twice keys (had ++ rows)) ≡ false

-- whether the place is one of the part's, and no row stands there
abbrev pub is_free : List ℕ → List (Option StreamKey) → ℕ → Bool
is_free own table place = list_any (nat_eq place) own && is_none (slice_index_or table place None)
