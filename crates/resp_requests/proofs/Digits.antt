-- Digits, one after another.
use Rattle.std.proofs.Common.{◌≡◌, ℕ, ◌+◌, ◌*◌, ◌-◌, ◌^◌, ◌<◌, ◌≤◌, ◌==◌, ◌&&◌, ◌⊎◌, inl, inr, Bool, true, false, not, nat_le, if◌then◌else◌, List, [], ◌∷◌, length, get_or, take, Option, Some, None, refl, sym, arith}
use Rattle.std.specs.Char.{is_ascii_digit, digit_value}
use Rattle.std.specs.Str.{all_ascii_digits}
use Rattle.std.specs.Str.Parse.{AllDigits, digits_value}
use Rattle.std.specs.Int.{IsInRange}
use Rattle.std.proofs.lemmas.Bool.Decides.{nat_tests}
use Rattle.std.proofs.lemmas.List.{length-take-le}
use Rattle.std.proofs.lemmas.Int.Digits.{digits_value_more, digits_more}
use Rattle.std.proofs.lemmas.Str.Parse.{IsNumeralModel, numerals_by_value, tells_all_ascii_digits, digit_at, digits_value_short}
use Rattle.resp_requests.specs.Numbers.{is_well_led, number_in}

own : IsNumeralModel (λ ds. all_ascii_digits ds ≡ true) (digits_value 10)
own = numerals_by_value (λ xs. all_ascii_digits xs ≡ true) tells_all_ascii_digits

-- one digit more
pub more_digits : (bs : List ℕ) (i : ℕ) → i < length bs → AllDigits 10 (take i bs) → is_ascii_digit (get_or bs i 0) ≡ true → AllDigits 10 (take (i + 1) bs)
more_digits bs i lt h digit = digits_more 10 bs i lt h (grind (arith, nat_tests, digit))

pub more_value : (bs : List ℕ) (i n : ℕ) → i < length bs → n ≡ digits_value 10 (take i bs) → is_ascii_digit (get_or bs i 0) ≡ true → n * 10 + (get_or bs i 0 - 48) ≡ digits_value 10 (take (i + 1) bs)
more_value bs i n lt is digit =
    let one : digit_value (get_or bs i 0) ≡ get_or bs i 0 - 48 = grind (arith, nat_tests, digit) in
    rw (is, ← one) (sym (digits_value_more 10 bs i lt))

digits_below : (ds : List ℕ) (k : ℕ) → AllDigits 10 ds → length ds ≤ k → digits_value 10 ds < 10 ^ k
digits_below ds k h le = digits_value_short own ds k (own.from ds h) le

well_led_short : (ds : List ℕ) → is_well_led ds ≡ true → length ds ≤ 19
well_led_short [] e = omega arith
well_led_short (c ∷ []) e = omega arith
well_led_short (c ∷ d ∷ ds) e = go (not (c == 48)) e
  where
    go : (b : Bool) → (b && nat_le (length ds) 17) ≡ true → length (c ∷ d ∷ ds) ≤ 19
    go true h = grind (arith, nat_tests, h)
    go false h = absurd cc

-- the digits before one more are so few that it fits
pub room_for_more : (ds : List ℕ) (i : ℕ) → is_well_led ds ≡ true → i < length ds → AllDigits 10 (take i ds) → digits_value 10 (take i ds) < 1_000_000_000_000_000_000
room_for_more ds i e lt h =
    let short : length (take i ds) ≤ 18 = omega (arith, well_led_short ds e, length-take-le i ds (omega arith)) in
    digits_below (take i ds) 18 h short

not_led : (ds : List ℕ) → is_well_led ds ≡ false → number_in ds ≡ None
unfolding number_in
not_led ds e = rw e refl

-- none, too many, or a zero before others
pub many_led : (ds : List ℕ) → (length ds ≡ 0) ⊎ (19 < length ds) → number_in ds ≡ None
many_led [] h = not_led [] refl
many_led (c ∷ []) h = absurd (elim h [ inl e ↦ omega arith | inr e ↦ omega arith ])
many_led (c ∷ d ∷ ds) (inl e) = absurd (omega arith)
many_led (c ∷ d ∷ ds) (inr e) = not_led (c ∷ d ∷ ds) (grind (arith, nat_tests))

pub zero_led : (ds : List ℕ) → 1 < length ds → get_or ds 0 0 ≡ 48 → number_in ds ≡ None
zero_led [] some e = absurd (omega arith)
zero_led (c ∷ []) some e = absurd (omega arith)
zero_led (c ∷ d ∷ ds) some e = not_led (c ∷ d ∷ ds) (grind (arith, nat_tests, e))

pub well_led : (ds : List ℕ) → 0 < length ds → length ds ≤ 19 → (length ds ≤ 1) ⊎ ((get_or ds 0 0 == 48) ≡ false) → is_well_led ds ≡ true
well_led [] some few h = absurd (omega arith)
well_led (c ∷ []) some few h = refl
well_led (c ∷ d ∷ ds) some few (inl e) = absurd (omega arith)
well_led (c ∷ d ∷ ds) some few (inr e) = grind (arith, nat_tests, e)

other_digit : (b : Bool) (ds : List ℕ) (i : ℕ) → all_ascii_digits ds ≡ b → i < length ds → is_ascii_digit (get_or ds i 0) ≡ false → b ≡ false
other_digit true ds i e h d =
    let r : IsInRange 48 57 (get_or ds i 0) = digit_at ds i (own.to ds e) h in
    absurd (grind (arith, nat_tests, r, d))
other_digit false ds i e h d = refl

no_number : (b c : Bool) (n : Option ℕ) → c ≡ false → (if b && c then n else None) ≡ None
no_number true c n e = rw e refl
no_number false c n e = refl

pub not_digit : (ds : List ℕ) (i : ℕ) → i < length ds → is_ascii_digit (get_or ds i 0) ≡ false → number_in ds ≡ None
unfolding number_in
not_digit ds i h d = no_number (is_well_led ds) (all_ascii_digits ds) (Some (digits_value 10 ds)) (other_digit (all_ascii_digits ds) ds i refl h d)

pub all_digits : (ds : List ℕ) → is_well_led ds ≡ true → AllDigits 10 ds → number_in ds ≡ Some (digits_value 10 ds)
unfolding number_in
all_digits ds e h = rw (e, own.from ds h) refl
