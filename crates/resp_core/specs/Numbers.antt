-- Decimal numbers in texts, as Rust reads its unsigned integers (documentation of Rust's `from_str`).
use Rattle.std.specs.Prelude.{ℕ, ◌+◌, ◌*◌, ◌-◌, ◌&&◌, Bool, nat_lt, nat_le, ◌==◌, if◌then◌else◌, List, [], ◌∷◌, fold, Option, Some, None}
use Rattle.std.specs.List.{list_all}

abbrev pub is_digit : ℕ → Bool
is_digit c = nat_le 48 c && nat_le c 57

-- the number that one digit or more write, if it is below the limit
abbrev pub digits_below : ℕ → List ℕ → Option ℕ
digits_below limit [] = None
digits_below limit (c ∷ cs) =
    let n = fold (λ n d. 10 * n + (d - 48)) 0 (c ∷ cs) in
    if list_all is_digit (c ∷ cs) && nat_lt n limit then Some n else None

-- the same, with at most one plus before it
abbrev pub number_below : ℕ → List ℕ → Option ℕ
number_below limit [] = None
number_below limit (c ∷ cs) = if c == 43 then digits_below limit cs else digits_below limit (c ∷ cs)
