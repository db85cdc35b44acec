-- A read of streams whose parts were sent to several nodes: one reply from the replies to the parts. Source:
-- the Redis documentation of XREAD (Return information): a row for each stream that has entries, in the order
-- of the keys of the request, and a null where none has.
use Rattle.std.specs.Prelude.{ℕ, zero, suc, Bool, true, false, not, ◌&&◌, nat_eq, nat_lt, if◌then◌else◌, List, [], ◌∷◌, ◌++◌, map as each, filter, Option, Some, None, slice_index_or}
use Rattle.std.specs.List.{flat_map, list_all, list_any}
use Rattle.std.specs.Str.{bytes_eq}
use Rattle.std.specs.Borrow.{Bor}
use Rattle.stream_commands.specs.ReadReply.{Row}

-- the bytes of keys that are lent
abbrev pub lent_keys : List (Bor (List ℕ)) → List (List ℕ)
lent_keys keys = each (λ (k : Bor (List ℕ)). k.now) keys

-- the keys at the positions of a part
abbrev pub keys_at : List (List ℕ) → List ℕ → List (List ℕ)
keys_at keys part = each (λ p. slice_index_or keys p []) part

-- whether each row names one of the keys
abbrev pub name_only : List (List ℕ) → List Row → Bool
name_only keys rows = list_all (λ (r : Row). list_any (bytes_eq r.key) keys) rows

-- whether the rows of each reply name keys of its part alone
abbrev pub name_own_keys : List (List ℕ) → List (List ℕ) → List (List Row) → Bool
name_own_keys keys [] [] = true
name_own_keys keys (part ∷ parts) (rows ∷ replies) = name_only (keys_at keys part) rows
    && name_own_keys keys parts replies
name_own_keys keys _ _ = false

-- the rows that name a key
abbrev pub rows_of : List Row → List ℕ → List Row
rows_of rows key = filter (λ (r : Row). bytes_eq key r.key) rows

abbrev pub is_one_at_most : List Row → Bool
is_one_at_most (r ∷ s ∷ rows) = false
is_one_at_most _ = true

-- whether no two rows name the same of the keys
abbrev pub name_none_twice : List (List ℕ) → List Row → Bool
name_none_twice keys rows = list_all (λ key. is_one_at_most (rows_of rows key)) keys

-- the rows of all replies
abbrev pub all_rows : List (List Row) → List Row
all_rows replies = flat_map (λ rows. rows) replies

-- the rows in the order of the keys that they name
abbrev pub in_key_order : List (List ℕ) → List Row → List Row
in_key_order keys rows = flat_map (rows_of rows) keys

-- The rows of the replies to the parts, in the order of the keys. None where a row names no key of its part,
-- or a key is named twice.
abbrev pub join : List (List ℕ) → List (List ℕ) → List (List Row) → Option (List Row)
join keys parts replies = if name_own_keys keys parts replies && name_none_twice keys (all_rows replies)
    then Some (in_key_order keys (all_rows replies)) else None

-- the numbers below n, ascending
abbrev pub positions_below : ℕ → List ℕ
positions_below zero = []
positions_below (suc n) = positions_below n ++ n ∷ []

abbrev pub are_distinct : List ℕ → Bool
are_distinct [] = true
are_distinct (p ∷ ps) = not (list_any (nat_eq p) ps) && are_distinct ps

-- whether the parts together have each position of so many keys, no other, and none twice
abbrev pub share : List (List ℕ) → ℕ → Bool
share parts n =
    let all : List ℕ = flat_map (λ part. part) parts in
    list_all (λ p. nat_lt p n) all && list_all (λ p. list_any (nat_eq p) all) (positions_below n)
    && are_distinct all
