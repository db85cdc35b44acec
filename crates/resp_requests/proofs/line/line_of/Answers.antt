use Rattle.std.proofs.Common.{◌≡◌, ℕ, ◌+◌, ◌-◌, ◌==◌, true, false, List, length, get_or, take, drop, Ok, ap, sym, ◌∙◌, arith}
use Rattle.std.proofs.lemmas.Bool.Decides.{nat_tests}
use Rattle.std.proofs.lemmas.List.{take_rest}
use Rattle.resp_requests.proofs.LineRuns.{unended_on, unended_so_far, line_ends, line_has_zero, line_is_long, line_is_short}
use Rattle.resp_requests.proofs.line.line_of.Goals as goal

pub returns-then-byte-end-clause-gives : goal.returns-then-byte-end-clause-gives
returns-then-byte-end-clause-gives c =
    let bs = c.args.bytes.now in
    let i = c.bytes.i in
    let rest : take (length bs - (i + 1)) (drop (i + 1) bs) ≡ drop (i + 1) bs = take_rest bs (i + 1) in
    let here : (get_or bs i 0 == c.args.end) ≡ true = grind (arith, nat_tests, c.if-byte-end.true) in
    line_ends c.args.end c.args.longest c.args.long bs i (omega arith) here (unended_so_far _ _ c.args.long bs i c.bytes.invariant.here)
    ∙ ap (λ (l : List ℕ). Ok (take i bs, l)) (sym rest)

pub returns-then-byte-eq0-clause-gives : goal.returns-then-byte-eq0-clause-gives
returns-then-byte-eq0-clause-gives c =
    let bs = c.args.bytes.now in
    let i = c.bytes.i in
    let on : (get_or bs i 0 == c.args.end) ≡ false = grind (arith, nat_tests, c.if-byte-end.false) in
    let none : (get_or bs i 0 == 0) ≡ true = grind (arith, nat_tests, c.if-byte-eq0.true) in
    line_has_zero c.args.end c.args.longest c.args.long bs i (omega arith) on none (unended_so_far _ _ c.args.long bs i c.bytes.invariant.here)

pub returns-then-i-longest-clause-gives : goal.returns-then-i-longest-clause-gives
returns-then-i-longest-clause-gives c =
    let bs = c.args.bytes.now in
    let i = c.bytes.i in
    let on : (get_or bs i 0 == c.args.end) ≡ false = grind (arith, nat_tests, c.if-byte-end.false) in
    let some : (get_or bs i 0 == 0) ≡ false = grind (arith, nat_tests, c.if-byte-eq0.false) in
    line_is_long c.args.end c.args.longest c.args.long bs i (omega arith) on some (omega arith) (unended_so_far _ _ c.args.long bs i c.bytes.invariant.here)

pub bytes-preserved : goal.bytes-preserved
bytes-preserved c =
    let bs = c.args.bytes.now in
    let i = c.bytes.i in
    let on : (get_or bs i 0 == c.args.end) ≡ false = grind (arith, nat_tests, c.if-byte-end.false) in
    let some : (get_or bs i 0 == 0) ≡ false = grind (arith, nat_tests, c.if-byte-eq0.false) in
    record { here = unended_on c.args.end c.args.longest bs i (omega arith) on some (omega arith) c.bytes.invariant.here; searched = c.bytes.invariant.searched }

pub returns-clause-gives : goal.returns-clause-gives
returns-clause-gives c =
    let bs = c.args.bytes.now in
    line_is_short c.args.end c.args.longest c.args.long bs c.bytes.i (omega arith) (unended_so_far _ _ c.args.long bs c.bytes.i c.bytes.invariant.here)
