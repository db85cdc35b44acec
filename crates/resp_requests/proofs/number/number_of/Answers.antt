use Rattle.std.proofs.Common.{◌≡◌, ◌<◌, ◌≤◌, ◌⊎◌, inl, inr, ◌==◌, false, ℕ, List, get_or, length, take, Some, sym, ap, subst, ◌∙◌, refl, arith}
use Rattle.std.proofs.lemmas.List.{take_all}
use Rattle.std.proofs.lemmas.Bool.Decides.{nat_tests}
use Rattle.std.specs.Str.Parse.{AllDigits, digits_value}
use Rattle.resp_requests.proofs.Digits.{more_digits, more_value, room_for_more, many_led, zero_led, well_led, not_digit, all_digits}
use Rattle.resp_requests.proofs.number.number_of.Goals.{then-is_empty-via-then-is_empty, then-is_empty-via-else-is_empty+then-digits-gt19, else-digits-gt1-via-then-digits-gt1+else-digits-eq48, else-digits-gt1-via-else-digits-gt1}
use Rattle.resp_requests.proofs.number.number_of.Goals as goal

pub returns-then-is_empty : goal.returns-then-is_empty
returns-then-is_empty c =
    sym (many_led c.args.digits.now (elim c.then-is_empty.branch [
      | then-is_empty-via-then-is_empty w ↦ inl (grind (arith, nat_tests, c.is_empty.ensures, w.if-is_empty.true))
      | then-is_empty-via-else-is_empty+then-digits-gt19 w ↦ inr (omega arith)
    ]))

pub returns-then-digits-eq48 : goal.returns-then-digits-eq48
returns-then-digits-eq48 c = sym (zero_led c.args.digits.now (omega arith) c.if-digits-eq48.true)

pub digits-init : goal.digits-init
digits-init c =
    let ds = c.args.digits.now in
    let some : 0 < length ds = grind (arith, nat_tests, c.is_empty.ensures, c.if-is_empty.false) in
    let other : (length ds ≤ 1) ⊎ ((get_or ds 0 0 == 48) ≡ false) = elim c.else-digits-gt1.branch [
      | else-digits-gt1-via-then-digits-gt1+else-digits-eq48 w ↦ inr (grind (arith, nat_tests, w.if-digits-eq48.false))
      | else-digits-gt1-via-else-digits-gt1 w ↦ inl (omega arith)
    ] in
    record { led = well_led ds some (omega arith) other; digits = tt; value = refl }

pub returns-then-not-is_ascii_digit : goal.returns-then-not-is_ascii_digit
returns-then-not-is_ascii_digit c =
    sym (not_digit c.args.digits.now c.digits.i (omega arith) (sym c.is_ascii_digit.ensures.value ∙ c.if-not-is_ascii_digit.true))

pub overflow_mul-value : goal.overflow_mul-value
overflow_mul-value c =
    omega (arith, room_for_more c.args.digits.now c.digits.i c.digits.invariant.led (omega arith) c.digits.invariant.digits, c.digits.invariant.value)

pub overflow_add-value : goal.overflow_add-value
overflow_add-value c =
    let room = room_for_more c.args.digits.now c.digits.i c.digits.invariant.led (omega arith) c.digits.invariant.digits in
    omega (arith, room, c.digits.invariant.value, c.type_inv.digits c.digits.i)

pub digits-preserved : goal.digits-preserved
digits-preserved c =
    let ds = c.args.digits.now in
    let i = c.digits.i in
    let digit = sym c.is_ascii_digit.ensures.value ∙ c.if-not-is_ascii_digit.false in
    record {
      led = c.digits.invariant.led;
      digits = more_digits ds i (omega arith) c.digits.invariant.digits digit;
      value = more_value ds i c.digits.value (omega arith) c.digits.invariant.value digit;
    }

pub returns : goal.returns
returns c =
    let ds = c.args.digits.now in
    let all : take c.digits.i ds ≡ ds = take_all c.digits.i ds (omega arith) in
    let digits = subst (λ (xs : List ℕ). AllDigits 10 xs) all c.digits.invariant.digits in
    let value : digits_value 10 ds ≡ c.digits.value = sym (c.digits.invariant.value ∙ ap (digits_value 10) all) in
    sym (all_digits ds c.digits.invariant.led digits ∙ ap (λ (n : ℕ). Some n) value)
