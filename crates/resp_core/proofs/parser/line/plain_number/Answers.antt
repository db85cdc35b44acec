use Rattle.std.proofs.Common.{◌≡◌, ◌+◌, ◌*◌, ◌-◌, ◌^◌, ◌<◌, ◌≤◌, ℕ, List, true, length, get_or, take, Some, pos, ℤ, refl, sym, ap, subst, ◌∙◌, arith}
use Rattle.std.proofs.lemmas.List.{take_all}
use Rattle.std.specs.Str.Parse.{AllDigits, digits_value}
use Rattle.resp_core.specs.Table.{number}
use Rattle.resp_core.proofs.PlainNumbers.{digits_text, digits_number, digits_below, room_for_more, more_digits, more_value}
use Rattle.resp_core.proofs.parser.line.plain_number.Goals as goal

pub overflow_mul-value : goal.overflow_mul-value
overflow_mul-value c = omega (arith, room_for_more c.args.line.now c.digits.i (omega arith) (omega arith) c.digits.invariant.digits, c.digits.invariant.value)

pub overflow_add-value : goal.overflow_add-value
overflow_add-value c =
    let room = room_for_more c.args.line.now c.digits.i (omega arith) (omega arith) c.digits.invariant.digits in
    omega (arith, room, c.digits.invariant.value, c.type_inv.line c.digits.i)

pub digits-preserved : goal.digits-preserved
digits-preserved c =
    let bs = c.args.line.now in
    let i = c.digits.i in
    let digit = sym c.is_ascii_digit.ensures.value ∙ c.if-not-is_ascii_digit.false in
    record {
      digits = more_digits bs i (omega arith) c.digits.invariant.digits digit;
      value = more_value bs i c.digits.value (omega arith) c.digits.invariant.value digit;
    }

pub returns-clause-text : goal.returns-clause-text
returns-clause-text c =
    let bs = c.args.line.now in
    let all : take c.digits.i bs ≡ bs = take_all c.digits.i bs (omega arith) in
    digits_text bs (subst (λ (xs : List ℕ). AllDigits 10 xs) all c.digits.invariant.digits)

pub returns-clause-number : goal.returns-clause-number
returns-clause-number c =
    let bs = c.args.line.now in
    let all : take c.digits.i bs ≡ bs = take_all c.digits.i bs (omega arith) in
    let digits = subst (λ (xs : List ℕ). AllDigits 10 xs) all c.digits.invariant.digits in
    let value : digits_value 10 bs ≡ c.digits.value = sym (c.digits.invariant.value ∙ ap (digits_value 10) all) in
    let below : digits_value 10 bs < 1_000_000_000_000_000_000 = digits_below bs 18 digits (omega arith) in
    digits_number bs digits (omega arith) (omega (arith, below)) ∙ ap (λ (n : ℕ). Some (pos n)) value

pub returns-clause-bound : goal.returns-clause-bound
returns-clause-bound c =
    let bs = c.args.line.now in
    let all : take c.digits.i bs ≡ bs = take_all c.digits.i bs (omega arith) in
    let digits = subst (λ (xs : List ℕ). AllDigits 10 xs) all c.digits.invariant.digits in
    let below : digits_value 10 bs < 1_000_000_000_000_000_000 = digits_below bs 18 digits (omega arith) in
    omega (arith, below, c.digits.invariant.value, ap (digits_value 10) all)
