-- Reading back what was written.
use Rattle.std.proofs.Common.{◌≡◌, ℕ, suc, ◌<◌, ◌^◌, ◌-◌, ℤ, pos, negsuc, List, [], ◌∷◌, false, Some, Ok, refl, sym, subst, arith, decimal, FitsSigned}
use Rattle.std.proofs.lemmas.Bool.Decides.{nat_tests}
use Rattle.std.proofs.lemmas.Fmt.{decimal_is_IsNumeral, IsAscii-decimal, IsAscii-signed}
use Rattle.std.proofs.lemmas.Str.{IsUtf8-from_ascii}
use Rattle.std.proofs.lemmas.Str.Parse.{without_leading_plus_none}
use Rattle.std.specs.Char.{digit_value}
use Rattle.std.specs.Fmt.{signed_decimal}
use Rattle.std.specs.Str.Parse.{IsNumeral, ParsesUnsigned, ParsesSigned, without_leading_plus, without_leading_sign, starts_with_minus}
use mir.Syntax.{Width}
use mir.Val.{hbits}
use lib.Signed.{mag}
use Rattle.resp_core.specs.Trees.{bulk}
use Rattle.resp_args.specs.Numbers.{unsigned_text, signed_text}
use Rattle.resp_args.specs.Convert.{unsigned_count, signed_count}
use Rattle.resp_args.proofs.Numerals.{unsigned_text-ok, signed_text-ok, utf8-known}

-- a digit is no sign
digit_differs : (d c : ℕ) → digit_value d < 10 → (digit_value c < 10 → ⊥) → d ≡ c → ⊥
digit_differs d c h k e = k (subst (λ x. digit_value x < 10) e h)

no_minus : (ds : List ℕ) → IsNumeral 10 ds → starts_with_minus ds ≡ false
no_minus [] h = absurd (omega (arith, h.0))
no_minus (d ∷ ds) h = let differs : d ≡ 45 → ⊥ = digit_differs d 45 h.1.0 (λ k. absurd (omega arith)) in grind (arith, nat_tests)

no_plus : (ds : List ℕ) → IsNumeral 10 ds → without_leading_plus ds ≡ ds
no_plus [] h = absurd (omega (arith, h.0))
no_plus (d ∷ ds) h = without_leading_plus_none (d ∷ ds) (digit_differs d 43 h.1.0 (λ k. absurd (omega arith)))

no_sign : (ds : List ℕ) → IsNumeral 10 ds → without_leading_sign ds ≡ ds
no_sign ds h = rw (no_minus ds h) (no_plus ds h)

pub unsigned_text-decimal : (bits n : ℕ) → n < 2 ^ bits → n < 2 ^ 64 → unsigned_text bits (decimal n) ≡ Some (pos n)
unsigned_text-decimal bits n fits short =
    let num = decimal_is_IsNumeral n short in
    let parsed : ParsesUnsigned {E = ℕ} bits 10 (decimal n) (Ok n) = rw (no_plus (decimal n) num.0, num.1) ((num.0, fits), refl) in
    sym (unsigned_text-ok {E = ℕ} bits (decimal n) (Ok n) parsed)

pub unsigned-reads_back : (bits n : ℕ) → n < 2 ^ bits → n < 2 ^ 64 → unsigned_count bits (bulk (decimal n)) ≡ Some (pos n)
unsigned-reads_back bits n fits short = rw (utf8-known (decimal n) (IsUtf8-from_ascii (decimal n) (IsAscii-decimal n short))) (unsigned_text-decimal bits n fits short)

pub signed_text-decimal : (w : Width) (bits : ℕ) (z : ℤ) → hbits w ≡ bits - 1 → FitsSigned w z → mag z < 2 ^ 63 → signed_text bits (signed_decimal z) ≡ Some z
signed_text-decimal w bits (pos n) e fits short =
    let num = decimal_is_IsNumeral n (omega arith) in
    let parsed : ParsesSigned {E = ℕ} w 10 (decimal n) (Ok (pos n)) = rw (no_minus (decimal n) num.0, no_plus (decimal n) num.0, num.1) ((num.0, fits), refl) in
    sym (signed_text-ok {E = ℕ} w bits (decimal n) (Ok (pos n)) e parsed)
signed_text-decimal w bits (negsuc n) e fits short =
    let num = decimal_is_IsNumeral (suc n) (omega arith) in
    let parsed : ParsesSigned {E = ℕ} w 10 (45 ∷ decimal (suc n)) (Ok (negsuc n)) = rw num.1 ((num.0, fits), refl) in
    sym (signed_text-ok {E = ℕ} w bits (45 ∷ decimal (suc n)) (Ok (negsuc n)) e parsed)

pub signed-reads_back : (w : Width) (bits : ℕ) (z : ℤ) → hbits w ≡ bits - 1 → FitsSigned w z → mag z < 2 ^ 63 → signed_count bits (bulk (signed_decimal z)) ≡ Some z
signed-reads_back w bits z e fits short = rw (utf8-known (signed_decimal z) (IsUtf8-from_ascii (signed_decimal z) (IsAscii-signed z short))) (signed_text-decimal w bits z e fits short)
