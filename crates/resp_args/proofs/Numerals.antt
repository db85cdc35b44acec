-- Numbers read of texts.
use Rattle.std.proofs.Common.{◌≡◌, ℕ, ◌^◌, ◌-◌, ◌<◌, ℤ, pos, negsuc, List, [], ◌∷◌, Bool, true, false, if◌then◌else◌, ◌&&◌, Some, None, option_map, Result, Ok, Err, refl, sym, subst, length, nat_lt, IsUtf8, FitsSigned}
use Rattle.std.proofs.lemmas.Bool.{ltb-true, lt-ltb}
use Rattle.std.specs.List.{list_all}
use Rattle.std.specs.Result.{result_ok}
use Rattle.std.specs.Char.{digit_value}
use Rattle.std.specs.Str.Parse.{AllDigits, ParsesUnsigned, ParsesSigned, digits_value, signed_digits_value, without_leading_plus, without_leading_sign}
use Rattle.std.proofs.lemmas.Str.{is_utf8-from_IsUtf8}
use mir.Syntax.{Width}
use mir.Val.{hbits}
use Rattle.resp_args.specs.Numbers.{unsigned_text, signed_text, signed_number, fits_signed}
use Rattle.resp_args.specs.Convert.{utf8}

digits_from : (ds : List ℕ) → list_all (λ d. nat_lt (digit_value d) 10) ds ≡ true → AllDigits 10 ds
digits_from [] e = tt
digits_from (d ∷ ds) e = let parts = both (nat_lt (digit_value d) 10) (list_all (λ c. nat_lt (digit_value c) 10) ds) e in (ltb-true _ _ parts.0, digits_from ds parts.1)
  where
    both : (a b : Bool) → (a && b) ≡ true → (a ≡ true) × (b ≡ true)
    both true b h = (refl, h)
    both false b h = cc

pub digits_back : (ds : List ℕ) → AllDigits 10 ds → list_all (λ d. nat_lt (digit_value d) 10) ds ≡ true
digits_back [] h = refl
digits_back (d ∷ ds) h = rw (lt-ltb (digit_value d) 10 h.0) (digits_back ds h.1)

pub unsigned_text-ok : {E : Type 0} (bits : ℕ) (bs : List ℕ) (r : Result ℕ E) → ParsesUnsigned bits 10 bs r → option_map pos (result_ok r) ≡ unsigned_text bits bs
unsigned_text-ok bits bs (Ok n) h = let ds = without_leading_plus bs in
    rw (lt-ltb 0 (length ds) h.0.0.0, digits_back ds h.0.0.1, lt-ltb (digits_value 10 ds) (2 ^ bits) h.0.1, h.1) refl
unsigned_text-ok bits bs (Err e) h = at (nat_lt 0 (length (without_leading_plus bs))) (list_all (λ d. nat_lt (digit_value d) 10) (without_leading_plus bs)) (nat_lt (digits_value 10 (without_leading_plus bs)) (2 ^ bits))
    (λ a b c. h ((ltb-true _ _ a, digits_from _ b), ltb-true _ _ c))
  where
    at : (a b c : Bool) → (a ≡ true → b ≡ true → c ≡ true → ⊥) → None ≡ (if (a && b) && c then Some (pos (digits_value 10 (without_leading_plus bs))) else None)
    at true true true k = absurd (k refl refl refl)
    at true true false k = refl
    at true false c k = refl
    at false b c k = refl

pub utf8-known : (b : List ℕ) → IsUtf8 b → utf8 b ≡ Some b
utf8-known b h = rw (is_utf8-from_IsUtf8 b h) refl

-- a number that a type of so many bits holds, and the width that the prover knows it by
pub fits_back : (w : Width) (bits : ℕ) (z : ℤ) → hbits w ≡ bits - 1 → FitsSigned w z → fits_signed bits z ≡ true
fits_back w bits (pos n) e h = lt-ltb n (2 ^ (bits - 1)) (subst (λ b. n < 2 ^ b) e h.sfits)
fits_back w bits (negsuc n) e h = lt-ltb n (2 ^ (bits - 1)) (subst (λ b. n < 2 ^ b) e h.sfits)

pub fits_from : (w : Width) (bits : ℕ) (z : ℤ) → hbits w ≡ bits - 1 → fits_signed bits z ≡ true → FitsSigned w z
fits_from w bits (pos n) e h = record { sfits = subst (λ b. n < 2 ^ b) (sym e) (ltb-true _ _ h) }
fits_from w bits (negsuc n) e h = record { sfits = subst (λ b. n < 2 ^ b) (sym e) (ltb-true _ _ h) }

pub signed_number-fits : (w : Width) (bits : ℕ) (z : ℤ) → hbits w ≡ bits - 1 → FitsSigned w z → signed_number bits z ≡ Some z
signed_number-fits w bits z e h = rw (fits_back w bits z e h) refl

pub signed_text-ok : {E : Type 0} (w : Width) (bits : ℕ) (bs : List ℕ) (r : Result ℤ E) → hbits w ≡ bits - 1 → ParsesSigned w 10 bs r → option_map (λ z. z) (result_ok r) ≡ signed_text bits bs
signed_text-ok w bits bs (Ok n) e h = let ds = without_leading_sign bs in
    rw (lt-ltb 0 (length ds) h.0.0.0, digits_back ds h.0.0.1, fits_back w bits (signed_digits_value 10 bs) e h.0.1, h.1) refl
signed_text-ok w bits bs (Err err) e h = at (nat_lt 0 (length (without_leading_sign bs))) (list_all (λ d. nat_lt (digit_value d) 10) (without_leading_sign bs)) (fits_signed bits (signed_digits_value 10 bs))
    (λ a b c. h ((ltb-true _ _ a, digits_from _ b), fits_from w bits _ e c))
  where
    at : (a b c : Bool) → (a ≡ true → b ≡ true → c ≡ true → ⊥) → None ≡ (if (a && b) && c then Some (signed_digits_value 10 bs) else None)
    at true true true k = absurd (k refl refl refl)
    at true true false k = refl
    at true false c k = refl
    at false b c k = refl
