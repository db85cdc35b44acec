-- A line of digits alone is text, needs no trimming, and is the number that they write.
use Rattle.std.proofs.Common.{◌≡◌, ℕ, ◌+◌, ◌*◌, ◌-◌, ◌^◌, ◌<◌, ◌≤◌, Bool, true, false, cond, List, [], ◌∷◌, length, get_or, take, Some, None, Option, Ok, Err, ℤ, pos, refl, sym, ap, subst, ◌∙◌, arith, w64}
use Rattle.std.specs.Bool.{Decides}
use Rattle.std.specs.Int.{IsInRange}
use Rattle.std.specs.Prelude.{FitsSigned}
use Rattle.std.specs.Char.{is_whitespace, is_ascii_digit, digit_value}
use Rattle.std.specs.Str.{is_utf8, chars, encode_utf8_all, skip_leading_whitespace, drop_trailing_whitespace, trim_start, trim_end, trim, all_ascii_digits}
use Rattle.std.specs.Str.Parse.{AllDigits, IsNumeral, digits_value, signed_digits_value, without_leading_sign}
use Rattle.std.proofs.lemmas.Bool.{false≢true}
use Rattle.std.proofs.lemmas.Bool.Decides.{nat_tests}
use Rattle.std.proofs.lemmas.Fmt.{IsAscii-from_digits}
use Rattle.std.proofs.lemmas.List.{length-take-le}
use Rattle.std.proofs.lemmas.Int.Digits.{digits_value_more, digits_more}
use Rattle.std.proofs.lemmas.Str.{encodes-IsAscii, chars-IsAscii, IsUtf8-from_ascii, is_utf8-from_IsUtf8}
use Rattle.std.proofs.lemmas.Str.Parse.{IsNumeralModel, numerals_by_value, tells_all_ascii_digits, digit_at, digits_value_short, parse_signed_digits}
use Rattle.resp_core.specs.Table.{number}
use Rattle.resp_core.proofs.Numbers.{tells}

own : IsNumeralModel (λ ds. all_ascii_digits ds ≡ true) (digits_value 10)
own = numerals_by_value (λ xs. all_ascii_digits xs ≡ true) tells_all_ascii_digits

not_white : (c : ℕ) → IsInRange 48 57 c → is_whitespace c ≡ false
not_white c h = grind (arith, nat_tests)

skips : (ds : List ℕ) → AllDigits 10 ds → skip_leading_whitespace ds ≡ ds
skips [] h = refl
skips (c ∷ cs) h = rw (not_white c (digit_at (c ∷ cs) 0 h (omega arith))) refl

pub drops : (ds : List ℕ) → AllDigits 10 ds → drop_trailing_whitespace ds ≡ ds
drops [] h = refl
drops (c ∷ cs) h = rw (not_white c (digit_at (c ∷ cs) 0 h (omega arith))) (ap (λ (xs : List ℕ). c ∷ xs) (drops cs h.1))

trimmed : (ds : List ℕ) → AllDigits 10 ds → trim ds ≡ ds
unfolding trim_start trim_end
trimmed ds h =
    let ascii = IsAscii-from_digits ds h in
    let same : chars ds ≡ ds = chars-IsAscii ds ascii in
    let back : encode_utf8_all ds ≡ ds = encodes-IsAscii ds ascii in
    rw (same, skips ds h, back, same, drops ds h) back

pub digits_text : (ds : List ℕ) → AllDigits 10 ds → is_utf8 ds ≡ true
digits_text ds h = is_utf8-from_IsUtf8 ds (IsUtf8-from_ascii ds (IsAscii-from_digits ds h))

read : (t : List ℕ) (b : Bool) → AllDigits 10 t → 0 < length t → digits_value 10 t < 2 ^ 63 → Decides b (IsNumeral 10 (without_leading_sign t) × FitsSigned w64 (signed_digits_value 10 t))
    → cond {A = Option ℤ} b (Some (signed_digits_value 10 t)) None ≡ Some (pos (digits_value 10 t))
read t true h some fits d =
    let is = parse_signed_digits own {E = ℕ} w64 t (Ok (signed_digits_value 10 t)) (d.0 refl, refl) (own.from t h) in
    ap (λ (z : ℤ). Some z) is.1
read t false h some fits d =
    let no = parse_signed_digits own {E = ℕ} w64 t (Err 0) (λ p. false≢true (d.1 p)) (own.from t h) in
    absurd (no (some, fits))

pub digits_number : (ds : List ℕ) → AllDigits 10 ds → 0 < length ds → digits_value 10 ds < 2 ^ 63 → number ds ≡ Some (pos (digits_value 10 ds))
unfolding number
digits_number ds h some fits = rw (trimmed ds h) (read ds _ h some fits (tells ds))

-- one digit more
pub more_digits : (bs : List ℕ) (i : ℕ) → i < length bs → AllDigits 10 (take i bs) → is_ascii_digit (get_or bs i 0) ≡ true → AllDigits 10 (take (i + 1) bs)
more_digits bs i lt h digit = digits_more 10 bs i lt h (grind (arith, nat_tests, digit))

pub more_value : (bs : List ℕ) (i n : ℕ) → i < length bs → n ≡ digits_value 10 (take i bs) → is_ascii_digit (get_or bs i 0) ≡ true → n * 10 + (get_or bs i 0 - 48) ≡ digits_value 10 (take (i + 1) bs)
more_value bs i n lt is digit =
    let one : digit_value (get_or bs i 0) ≡ get_or bs i 0 - 48 = grind (arith, nat_tests, digit) in
    rw (is, ← one) (sym (digits_value_more 10 bs i lt))

pub digits_below : (ds : List ℕ) (k : ℕ) → AllDigits 10 ds → length ds ≤ k → digits_value 10 ds < 10 ^ k
digits_below ds k h le = digits_value_short own ds k (own.from ds h) le

-- the digits before one more are so few that it fits
pub room_for_more : (ds : List ℕ) (i : ℕ) → length ds ≤ 18 → i < length ds → AllDigits 10 (take i ds) → digits_value 10 (take i ds) < 100_000_000_000_000_000
room_for_more ds i few lt h =
    let short : length (take i ds) ≤ 17 = omega (arith, length-take-le i ds (omega arith)) in
    digits_below (take i ds) 17 h short
