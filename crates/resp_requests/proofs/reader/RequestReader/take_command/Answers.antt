use Rattle.std.proofs.Common.{◌≡◌, ◌<◌, length, sym, subst, ◌∙◌, arith}
use Rattle.std.proofs.lemmas.Bool.Decides.{nat_tests}
use Rattle.resp_requests.specs.declared.fault.Fault.{Fault}
use Rattle.resp_requests.specs.declared.limits.Limits.{Limits}
use Rattle.resp_requests.specs.Given.{texts}
use Rattle.resp_requests.specs.Standing.{IsNext, AreBeforeFault}
use Rattle.resp_requests.proofs.Standings.{stands_all, stands_before, stands_behind, stands_next, stands_skipped, texts_length}
use Rattle.resp_requests.proofs.reader.RequestReader.take_command.Goals as goal

pub returns-then-not-is_empty-clause-command : goal.returns-then-not-is_empty-clause-command
returns-then-not-is_empty-clause-command c = λ cs bytes stands.
    let r = c.requests.self in
    let s = c.advance.new.self in
    let words = c.in-Ok-Some.command.items in
    let none = c.requests.invariant.told ∙ c.in_default.is in
    let some : 0 < length words = grind (arith, nat_tests, c.is_empty.ensures, c.if-not-is_empty.true) in
    let further =
    stands_behind r s (texts words) none c.advance.ensures.same.1 c.advance.ensures.same.2 (rw c.in-Ok-Some.field-0-is at c.in-Ok-Some.ensures.advances) (omega (arith, some, texts_length words)) cs bytes (c.requests.invariant.standing cs bytes stands) in
    let next = stands_next s cs (texts words) bytes (c.advance.ensures.same.1 ∙ none) further in
    (subst (λ (l : Limits). IsNext l bytes cs (texts words)) (c.advance.ensures.same.2 ∙ c.requests.invariant.limits) next, further)

pub requests-preserved-in-Ok-Some : goal.requests-preserved-in-Ok-Some
requests-preserved-in-Ok-Some c =
    let r = c.requests.self in
    let s = c.advance.new.self in
    let words = c.in-Ok-Some.command.items in
    let none = c.requests.invariant.told ∙ c.in_default.is in
    let no_words : length words ≡ 0 = grind (arith, nat_tests, c.is_empty.ensures, c.if-not-is_empty.false) in
    record {
      standing = λ cs bytes stands. stands_skipped r s (texts words) none c.advance.ensures.same.1 c.advance.ensures.same.2 (rw c.in-Ok-Some.field-0-is at c.in-Ok-Some.ensures.advances) (texts_length words ∙ no_words) cs bytes (c.requests.invariant.standing cs bytes stands);
      buffer = c.advance.ensures.same.0 ∙ c.requests.invariant.buffer;
      told = c.advance.ensures.same.1 ∙ c.requests.invariant.told;
      limits = c.advance.ensures.same.2 ∙ c.requests.invariant.limits;
    }

pub returns-in-Err-Short-clause-none : goal.returns-in-Err-Short-clause-none
returns-in-Err-Short-clause-none c =
    stands_all c.args.self.now c.requests.self c.advance.new.self c.requests.invariant.limits c.requests.invariant.standing (c.requests.invariant.told ∙ c.in_default.is)
    c.advance.ensures.same.1 c.advance.ensures.same.2 (rw c.in-Err-Short.field-0-is at c.in-Err-Short.ensures.advances)

pub returns-in-Err-Fault-clause-fault : goal.returns-in-Err-Fault-clause-fault
returns-in-Err-Fault-clause-fault c = λ f is cs bytes stands.
    let q = c.args.self.now in
    let found = c.in-Err-Fault.fault in
    let before : AreBeforeFault q.limits bytes cs found =
    stands_before q c.requests.self found c.requests.invariant.limits c.requests.invariant.standing (c.requests.invariant.told ∙ c.in_default.is) (rw c.in-Err-Fault.field-0-is at c.in-Err-Fault.ensures.advances) cs bytes stands in (
      subst (λ (g : Fault). AreBeforeFault q.limits bytes cs g) (let same : found ≡ f = cc in same) before,
      subst (λ (l : Limits). AreBeforeFault l bytes cs found) (sym (c.advance.ensures.same.2 ∙ c.requests.invariant.limits)) before,
    )
