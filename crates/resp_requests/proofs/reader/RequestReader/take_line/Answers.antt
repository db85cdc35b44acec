use Rattle.std.proofs.Common.{◌≡◌, ◌-◌, length, take, drop, refl, arith}
use Rattle.std.proofs.lemmas.Result.{err_from_is_err_and}
use Rattle.resp_requests.specs.Given.{texts}
use Rattle.resp_requests.specs.Standing.{waiting}
use Rattle.resp_requests.proofs.ReaderSteps.{ReadOf, read_of}
use Rattle.resp_requests.specs.Requests.{inline_at}
use Rattle.resp_requests.proofs.Parts.{inline_took}
use Rattle.resp_requests.proofs.Standings.{stops_there, line_taken, line_stops, handed}
use Rattle.resp_requests.proofs.Searchings.{none_searched, ends_as, ends_back, inline_end}
use Rattle.resp_requests.proofs.reader.RequestReader.take_line.Goals.{After-len}
use Rattle.resp_requests.proofs.reader.RequestReader.take_line.Goals as goal

-- what was read of the bytes that wait, and where the front is behind it
taken : (c : After-len) → ReadOf c.args.self.now (inline_at c.args.self.now.limits (waiting c.args.self.now)) (texts c.in_ok-words.words.items) c.in_ok-words.rest.now c.len.result
taken c =
    let r = c.args.self.now in
    read_of r (inline_at r.limits) (texts c.in_ok-words.words.items) c.in_ok-words.rest.now _ c.len.result (inline_took r.limits) (handed r _ c.deref.ensures.value) (omega arith) c.in_ok-words.ensures.gives

pub returns-in_err-words-clause-advances : goal.returns-in_err-words-clause-advances
returns-in_err-words-clause-advances c =
    let r = c.args.self.now in
    let stop = c.in_err-words.field-0.0 in
    let e = err_from_is_err_and c.from_residual.result c.from_residual.ensures.1 in
    rw (e.1, e.2) (stops_there stop r _ (inline_at r.limits) _ (handed r _ c.deref.ensures.value) (λ more. refl) (line_stops stop r c.requires.between c.requires.no_star) c.in_err-words.ensures.gives)

pub overflow_sub-self : goal.overflow_sub-self
overflow_sub-self c = (taken (goal.at.overflow_sub-self c).After-len).enough

pub returns-clause-advances : goal.returns-clause-advances
returns-clause-advances c =
    let t = taken (goal.at.returns-clause-advances c).After-len in
    line_taken c.args.self.now _ c.in_ok-words.rest.now (texts c.in_ok-words.words.items) c.requires.between c.requires.no_star t.is c.requires.between t.waits

pub returns-clause-front : goal.returns-clause-front
returns-clause-front c = (taken (goal.at.returns-clause-front c).After-len).moves

pub inline_of-requires : goal.inline_of-requires
inline_of-requires c = ends_as c.args.self.now 10 (inline_end c.args.self.now c.requires.between c.requires.no_star) _ (handed c.args.self.now _ c.deref.ensures.value)

pub invariant_of-self-clause-searches : goal.invariant_of-self-clause-searches
invariant_of-self-clause-searches c = ends_back c.args.self.now 10 (inline_end c.args.self.now c.requires.between c.requires.no_star) _ (handed c.args.self.now _ c.deref.ensures.value) _ c.inline_of.ensures.searched

pub invariant_of-self-2-clause-searches : goal.invariant_of-self-2-clause-searches
invariant_of-self-2-clause-searches c = none_searched _ _ _
