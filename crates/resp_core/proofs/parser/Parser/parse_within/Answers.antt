use Rattle.std.proofs.Common.{refl, ℕ, List, [], ◌∷◌, ◌∙◌, sym, subst}
use Rattle.std.proofs.lemmas.Result.{err_from_is_err_and}
use Rattle.resp_core.specs.Standing.{Stands, level_limit, waiting, BeginsUnfinished}
use Rattle.resp_core.proofs.Readings.{Seeks-none}
use Rattle.resp_core.proofs.ReadingEnds.{Reads-within, Seeks-within, Meets-within, Seeks-then_value, Seeks-on, Stops-on, Meets-fault}
use Rattle.resp_core.proofs.parser.Parser.parse_within.Given.{Over}
use Rattle.resp_core.proofs.parser.Parser.parse_within.Goals.{In_default}
use Rattle.resp_core.proofs.parser.Parser.parse_within.Goals as goal

-- what was held begins with no whole value
none_yet : (g : Over) (c : In_default g) (rest : List ℕ) → Stands c.loop-value.self rest → BeginsUnfinished (level_limit c.take_value.new.self) rest × Stands c.take_value.new.self rest
none_yet g c rest stands =
    let none = rw c.in_default.is at c.in_ok-value.ensures.none in
    let waits = none rest stands in
    (subst (λ (k : ℕ). BeginsUnfinished k rest) (sym c.take_value.ensures.limit) waits.0, waits.1)

pub returns-in_err-value-clause-meets : goal.returns-in_err-value-clause-meets
returns-in_err-value-clause-meets g c is held stands =
    let p = err_from_is_err_and c.from_residual.result c.from_residual.ensures.1 in
    let so_far = c.loop-value.invariant.reads held stands in
    let met = c.in_err-value.ensures.fault (cc (p.1, p.2, is)) so_far.0 so_far.2 in
    (so_far.0, Meets-within _ c.take_value.ensures.limit (Meets-fault so_far.1 met.0), met.1)

pub returns-in-Some-clause-value : goal.returns-in-Some-clause-value
returns-in-Some-clause-value g c held stands =
    let so_far = c.loop-value.invariant.reads held stands in
    let behind = rw c.in-Some.is at c.in_ok-value.ensures.behind in
    let waits = rw c.in-Some.is at c.in_ok-value.ensures.waits in
    (Reads-within _ c.take_value.ensures.limit (Seeks-then_value _ _ _ (waiting c.take_value.new.self) _ so_far.1 (behind so_far.0 so_far.2) refl), waits)

pub loop-value-init : goal.loop-value-init
loop-value-init g c = record {
  reads = λ held stands. (held, Seeks-none _, stands);
  limit = refl;
  fault = λ h. h;
  starved = λ h w. (h, w);
}

pub loop-value-preserved : goal.loop-value-preserved
loop-value-preserved g c = record {
  reads = λ held stands.
      let so_far = c.loop-value.invariant.reads held stands in
      let none = none_yet g (goal.at.loop-value-preserved g c).In_default so_far.0 so_far.2 in
      let more = c.in_ok-read_more.ensures.more so_far.0 none.0 none.1 in
      (more.0, Seeks-on (Seeks-within _ c.take_value.ensures.limit so_far.1) more.1, more.2);
  limit = c.read_more.ensures.limit ∙ c.take_value.ensures.limit ∙ c.loop-value.invariant.limit;
  fault = λ h. let e = c.in_ok-value.ensures.fault_stays (c.loop-value.invariant.fault h) in absurd (cc e);
  starved = λ h w.
      let s = c.loop-value.invariant.starved h w in
      let e = c.in_ok-value.ensures.starved_stays s.0 s.1 in
      absurd (cc e);
}

pub returns-in_err-read_more-clause-stops : goal.returns-in_err-read_more-clause-stops
returns-in_err-read_more-clause-stops g c is held stands =
    let p = err_from_is_err_and c.from_residual-in_err-read_more.result c.from_residual-in_err-read_more.ensures.1 in
    let so_far = c.loop-value.invariant.reads held stands in
    let none = none_yet g (goal.at.returns-in_err-read_more-clause-stops g c).In_default so_far.0 so_far.2 in
    let stop = c.in_err-read_more.ensures.stops (cc (p.1, p.2, is)) so_far.0 none.0 none.1 in
    (stop.0, Stops-on (Seeks-within _ c.take_value.ensures.limit so_far.1) stop.1, stop.2)

pub returns-in_err-read_more-clause-starves : goal.returns-in_err-read_more-clause-starves
returns-in_err-read_more-clause-starves g c is held stands =
    let p = err_from_is_err_and c.from_residual-in_err-read_more.result c.from_residual-in_err-read_more.ensures.1 in
    let so_far = c.loop-value.invariant.reads held stands in
    let none = none_yet g (goal.at.returns-in_err-read_more-clause-starves g c).In_default so_far.0 so_far.2 in
    let starved = c.in_err-read_more.ensures.starves (cc (p.1, p.2, is)) so_far.0 none.0 none.1 in
    (starved.0, Seeks-on (Seeks-within _ c.take_value.ensures.limit so_far.1) starved.1)

pub returns-in_err-value-clause-starves : goal.returns-in_err-value-clause-starves
returns-in_err-value-clause-starves g c is held stands =
    let so_far = c.loop-value.invariant.reads held stands in
    (so_far.0, Seeks-within _ c.take_value.ensures.limit so_far.1)

pub returns-in-Some-clause-rests : goal.returns-in-Some-clause-rests
returns-in-Some-clause-rests g c = rw c.in-Some.is at c.in_ok-value.ensures.rests
