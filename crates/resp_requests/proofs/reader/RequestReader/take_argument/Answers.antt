use Rattle.std.proofs.Common.{◌≡◌, ◌-◌, ℕ, [], ◌∷◌, ◌++◌, length, take, drop, Vec, refl, ap, ◌∙◌, arith}
use Rattle.std.proofs.lemmas.Result.{err_from_is_err_and}
use Rattle.resp_requests.specs.Given.{texts}
use Rattle.resp_requests.specs.Standing.{waiting}
use Rattle.resp_requests.proofs.ReaderSteps.{ReadOf, read_of}
use Rattle.std.specs.Global.{Global}
use Rattle.resp_requests.specs.declared.reader.RequestReader.{RequestReader}
use Rattle.resp_requests.specs.Arrays.{argument_at}
use Rattle.resp_requests.proofs.Parts.{argument_took}
use Rattle.resp_requests.proofs.Standings.{stops_there, taken_on, taken_last, texts_more, argument_stops, handed}
use Rattle.resp_requests.proofs.Searchings.{none_searched, ends_as, ends_back, length_end}
use Rattle.resp_requests.proofs.reader.RequestReader.take_argument.Goals.{After-len, In_ok-push}
use Rattle.resp_requests.proofs.reader.RequestReader.take_argument.Goals as goal

-- what was read of the bytes that wait, and where the front is behind it
taken : (c : After-len) → ReadOf c.args.self.now (argument_at c.args.self.now.limits (waiting c.args.self.now)) c.in_ok-argument.argument.items c.in_ok-argument.rest.now c.len.result
taken c =
    let r = c.args.self.now in
    read_of r (argument_at r.limits) c.in_ok-argument.argument.items c.in_ok-argument.rest.now _ c.len.result (argument_took r.limits) (handed r _ c.deref.ensures.value) (omega arith) c.in_ok-argument.ensures.gives

-- it is behind the arguments that were taken before
kept : (c : In_ok-push) → texts c.push.new.self.items ≡ texts c.args.self.now.arguments.items ++ c.in_ok-argument.argument.items ∷ []
kept c = ap texts c.in_ok-push.ensures.items ∙ texts_more c.args.self.now.arguments.items c.in_ok-argument.argument

pub returns-in_err-argument-clause-advances : goal.returns-in_err-argument-clause-advances
returns-in_err-argument-clause-advances c =
    let r = c.args.self.now in
    let stop = c.in_err-argument.field-0.0 in
    let e = err_from_is_err_and c.from_residual.result c.from_residual.ensures.1 in
    rw (e.1, e.2) (stops_there stop r _ (argument_at r.limits) _ (handed r _ c.deref.ensures.value) (λ more. refl) (argument_stops stop r c.requires) c.in_err-argument.ensures.gives)

pub overflow_sub-self : goal.overflow_sub-self
overflow_sub-self c = (taken (goal.at.overflow_sub-self c).After-len).enough

pub returns-then-self-gt0-clause-advances : goal.returns-then-self-gt0-clause-advances
returns-then-self-gt0-clause-advances c =
    let r = c.args.self.now in
    let rest = c.in_ok-argument.rest.now in
    let at = goal.at.returns-then-self-gt0-clause-advances c in
    let t = taken at.After-len in
    let s : RequestReader = record { buffer = r.buffer; front = c.len.result - length rest; arguments = c.push.new.self; missing = r.missing - 1; limits = r.limits; fault = r.fault; front_within = t.within; searched = 0; searches = none_searched _ _ _ } in
    taken_on r s rest c.in_ok-argument.argument.items t.is (omega arith) refl (kept at.In_ok-push) refl t.waits

pub returns-then-self-gt0-clause-front : goal.returns-then-self-gt0-clause-front
returns-then-self-gt0-clause-front c = (taken (goal.at.returns-then-self-gt0-clause-front c).After-len).moves

pub returns-clause-advances : goal.returns-clause-advances
returns-clause-advances c =
    let at = goal.at.returns-clause-advances c in
    let t = taken at.After-len in
    let all : texts c.replace.result.items ≡ texts c.args.self.now.arguments.items ++ c.in_ok-argument.argument.items ∷ [] =
    ap (λ (v : Vec (Vec ℕ Global) Global). texts v.items) c.replace.ensures.value ∙ kept at.In_ok-push in
    taken_last c.args.self.now _ c.in_ok-argument.rest.now c.in_ok-argument.argument.items (texts c.replace.result.items) t.is (omega arith) all (omega arith) t.waits

pub returns-clause-front : goal.returns-clause-front
returns-clause-front c = (taken (goal.at.returns-clause-front c).After-len).moves

pub invariant_of-self-then-self-gt0-clause-searches : goal.invariant_of-self-then-self-gt0-clause-searches
invariant_of-self-then-self-gt0-clause-searches c = none_searched _ _ _

pub invariant_of-self-2-clause-searches : goal.invariant_of-self-2-clause-searches
invariant_of-self-2-clause-searches c = none_searched _ _ _

pub argument_of-requires : goal.argument_of-requires
argument_of-requires c = ends_as c.args.self.now 13 (length_end c.args.self.now c.requires) _ (handed c.args.self.now _ c.deref.ensures.value)

pub invariant_of-self-clause-searches : goal.invariant_of-self-clause-searches
invariant_of-self-clause-searches c = ends_back c.args.self.now 13 (length_end c.args.self.now c.requires) _ (handed c.args.self.now _ c.deref.ensures.value) _ c.argument_of.ensures.searched
