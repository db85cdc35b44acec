-- Which numbers an integer type of so many bits holds, and which number it reads of a text. Source: the
-- documentation of Rust's `str::parse` for the integer types: a sign `+`, for signed types also `-`, then one
-- decimal digit or more, and nothing else.
use Rattle.std.specs.Prelude.{ℕ, ℤ, pos, negsuc, List, Bool, false, Option, Some, None, if◌then◌else◌, ◌&&◌, ◌-◌, ◌^◌, nat_lt, length}
use Rattle.std.specs.List.{list_all}
use Rattle.std.specs.Char.{digit_value}
use Rattle.std.specs.Str.Parse.{digits_value, signed_digits_value, without_leading_plus, without_leading_sign}

-- one decimal digit or more, and nothing else
abbrev pub is_numeral : List ℕ → Bool
is_numeral ds = nat_lt 0 (length ds) && list_all (λ d. nat_lt (digit_value d) 10) ds

abbrev pub fits_unsigned : ℕ → ℤ → Bool
fits_unsigned bits (pos n) = nat_lt n (2 ^ bits)
fits_unsigned bits (negsuc n) = false

abbrev pub fits_signed : ℕ → ℤ → Bool
fits_signed bits (pos n) = nat_lt n (2 ^ (bits - 1))
fits_signed bits (negsuc n) = nat_lt n (2 ^ (bits - 1))

-- a number, if the type holds it
abbrev pub unsigned_number : ℕ → ℤ → Option ℤ
unsigned_number bits z = if fits_unsigned bits z then Some z else None

-- the integer, where so many bits hold it
abbrev pub signed_number : ℕ → ℤ → Option ℤ
signed_number bits z = if fits_signed bits z then Some z else None

-- the number that the type reads of a text
abbrev pub unsigned_text : ℕ → List ℕ → Option ℤ
unsigned_text bits bs =
    let digits = without_leading_plus bs in
    if is_numeral digits && nat_lt (digits_value 10 digits) (2 ^ bits)
    then Some (pos (digits_value 10 digits)) else None

-- the integer of so many bits that a text spells
abbrev pub signed_text : ℕ → List ℕ → Option ℤ
signed_text bits bs =
    if is_numeral (without_leading_sign bs) && fits_signed bits (signed_digits_value 10 bs)
    then Some (signed_digits_value 10 bs) else None
