-- Numbers in the lines of arrays, as Redis reads them: decimal digits, no plus, no zero in front, no blanks.
-- Source: Redis 7.0.15, `string2ll`.
use Rattle.std.specs.Prelude.{ℕ, ◌^◌, ◌&&◌, not, Bool, true, false, nat_lt, nat_le, ◌==◌, if◌then◌else◌, List, [], ◌∷◌, length, Option, Some, None}
use Rattle.std.specs.Str.{all_ascii_digits}
use Rattle.std.specs.Str.Parse.{digits_value}

-- One digit, or 2 to 19 whose first is no zero. What 20 of them write is too large for 64 bits with a sign.
abbrev pub is_well_led : List ℕ → Bool
is_well_led [] = false
is_well_led (c ∷ []) = true
is_well_led (c ∷ d ∷ ds) = not (c == 48) && nat_le (length ds) 17

-- the number that the digits write
unfoldable pub number_in : List ℕ → Option ℕ
number_in ds = if is_well_led ds && all_ascii_digits ds then Some (digits_value 10 ds) else None

abbrev pub is_below_zero : Option ℕ → Bool
is_below_zero None = false
is_below_zero (Some n) = nat_lt 0 n && nat_le n (2 ^ 63)

-- a minus and such a number: one below zero, of 64 bits
unfoldable pub is_negative : List ℕ → Bool
is_negative [] = false
is_negative (c ∷ cs) = c == 45 && is_below_zero (number_in cs)
