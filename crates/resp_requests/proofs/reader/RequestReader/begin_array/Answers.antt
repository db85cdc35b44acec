use Rattle.std.proofs.Common.{◌≡◌, ◌-◌, length, take, drop, refl, ap, arith}
use Rattle.std.proofs.lemmas.Result.{err_from_is_err_and}
use Rattle.resp_requests.specs.Given.{texts}
use Rattle.resp_requests.specs.Standing.{waiting}
use Rattle.resp_requests.proofs.ReaderSteps.{ReadOf, read_of}
use Rattle.resp_requests.specs.declared.reader.RequestReader.{RequestReader}
use Rattle.resp_requests.specs.Arrays.{count_at}
use Rattle.resp_requests.proofs.Parts.{count_took}
use Rattle.resp_requests.proofs.Standings.{stops_there, begun_empty, begun, array_stops, handed}
use Rattle.resp_requests.proofs.Searchings.{none_searched, ends_as, ends_back, star_end}
use Rattle.resp_requests.proofs.reader.RequestReader.begin_array.Goals.{After-len}
use Rattle.resp_requests.proofs.reader.RequestReader.begin_array.Goals as goal

-- what was read of the bytes that wait, and where the front is behind it
taken : (c : After-len) → ReadOf c.args.self.now (count_at c.args.self.now.limits (waiting c.args.self.now)) c.in_ok-count.count c.in_ok-count.rest.now c.len.result
taken c =
    let r = c.args.self.now in
    read_of r (count_at r.limits) c.in_ok-count.count c.in_ok-count.rest.now _ c.len.result (count_took r.limits) (handed r _ c.deref.ensures.value) (omega arith) c.in_ok-count.ensures.gives

pub returns-in_err-count-clause-advances : goal.returns-in_err-count-clause-advances
returns-in_err-count-clause-advances c =
    let r = c.args.self.now in
    let stop = c.in_err-count.field-0.0 in
    let e = err_from_is_err_and c.from_residual.result c.from_residual.ensures.1 in
    rw (e.1, e.2) (stops_there stop r _ (count_at r.limits) _ (handed r _ c.deref.ensures.value) (λ more. refl) (array_stops stop r c.requires.between c.requires.star) c.in_err-count.ensures.gives)

pub overflow_sub-self : goal.overflow_sub-self
overflow_sub-self c = (taken (goal.at.overflow_sub-self c).After-len).enough

pub returns-then-count-eq0-clause-advances : goal.returns-then-count-eq0-clause-advances
returns-then-count-eq0-clause-advances c =
    let t = taken (goal.at.returns-then-count-eq0-clause-advances c).After-len in
    begun_empty c.args.self.now _ c.in_ok-count.rest.now c.in_ok-count.count (texts c.new.result.items) c.requires.between c.requires.star t.is c.if-count-eq0.true (ap texts c.new.ensures.items) c.requires.between t.waits

pub returns-then-count-eq0-clause-front : goal.returns-then-count-eq0-clause-front
returns-then-count-eq0-clause-front c = (taken (goal.at.returns-then-count-eq0-clause-front c).After-len).moves

pub returns-clause-advances : goal.returns-clause-advances
returns-clause-advances c =
    let r = c.args.self.now in
    let rest = c.in_ok-count.rest.now in
    let t = taken (goal.at.returns-clause-advances c).After-len in
    let s : RequestReader = record { buffer = r.buffer; front = c.len.result - length rest; arguments = c.new-2.result; missing = c.in_ok-count.count; limits = r.limits; fault = r.fault; front_within = t.within; searched = 0; searches = none_searched _ _ _ } in
    begun r s rest c.in_ok-count.count c.requires.between c.requires.star t.is (omega arith) refl c.new-2.ensures.items refl t.waits

pub returns-clause-front : goal.returns-clause-front
returns-clause-front c = (taken (goal.at.returns-clause-front c).After-len).moves

pub invariant_of-self-2-clause-searches : goal.invariant_of-self-2-clause-searches
invariant_of-self-2-clause-searches c = none_searched _ _ _

pub count_of-requires : goal.count_of-requires
count_of-requires c = ends_as c.args.self.now 13 (star_end c.args.self.now c.requires.between c.requires.star) _ (handed c.args.self.now _ c.deref.ensures.value)

pub invariant_of-self-clause-searches : goal.invariant_of-self-clause-searches
invariant_of-self-clause-searches c = ends_back c.args.self.now 13 (star_end c.args.self.now c.requires.between c.requires.star) _ (handed c.args.self.now _ c.deref.ensures.value) _ c.count_of.ensures.searched

pub invariant_of-self-then-count-eq0-clause-searches : goal.invariant_of-self-then-count-eq0-clause-searches
invariant_of-self-then-count-eq0-clause-searches c = none_searched _ _ _
