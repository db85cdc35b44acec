use Rattle.std.proofs.Common.{◌≡◌, ◌∙◌, false, ℕ, refl, sym, subst, arith}
use Rattle.std.proofs.lemmas.Result.{err_from_is_err_and}
use Rattle.resp_core.specs.Standing.{has_fault, is_starved, BeginsUnfinished}
use Rattle.resp_core.specs.declared.parser.Condition.TheVariants.{Reading}
use Rattle.resp_core.proofs.Readings.{Seeks-none}
use Rattle.resp_core.proofs.ReadingEnds.{Seeks-within, Seeks-on, Stops-on}
use Rattle.resp_core.proofs.Standings.{it_reads, stands_none, stands_within}
use Rattle.resp_core.proofs.parser.Parser.read_more.Goals as goal

pub reads-init : goal.reads-init
reads-init g c = record {
  reads = λ held unfinished stands. (held, Seeks-none _, unfinished, stands);
  limit = refl;
  whole = c.requires.whole;
  fed = c.requires.fed;
  room = refl;
  fewer = omega arith;
}

pub returns-in_err-read_into-clause-starves : goal.returns-in_err-read_into-clause-starves
returns-in_err-read_into-clause-starves g c is held unfinished stands =
    let p = err_from_is_err_and c.from_residual.result c.from_residual.ensures.1 in
    let so_far = c.reads.invariant.reads held unfinished stands in
    let starved = c.in_err-read_into.ensures.starves (cc (p.1, p.2, is)) so_far.0 so_far.2 so_far.3 in
    (starved.0, Seeks-on so_far.1 starved.1)

pub returns-in_err-read_into-clause-stops : goal.returns-in_err-read_into-clause-stops
returns-in_err-read_into-clause-stops g c is held unfinished stands =
    let p = err_from_is_err_and c.from_residual.result c.from_residual.ensures.1 in
    let so_far = c.reads.invariant.reads held unfinished stands in
    let stop = c.in_err-read_into.ensures.stops (cc (p.1, p.2, is)) so_far.0 so_far.2 so_far.3 in
    (so_far.0, Stops-on so_far.1 stop.0, stop.1)

pub returns-then-not-lacks_bytes-clause-more : goal.returns-then-not-lacks_bytes-clause-more
returns-then-not-lacks_bytes-clause-more g c held unfinished stands =
    let so_far = c.reads.invariant.reads held unfinished stands in
    let more = c.in_ok-read_into.ensures.more so_far.0 so_far.2 so_far.3 in
    let same : c.lacks_bytes.new.self ≡ c.read_into.new.self = c.lacks_bytes.ensures.same c.if-not-lacks_bytes.true in
    rw same (more.0, Seeks-on so_far.1 more.1, more.2)

pub reads-preserved : goal.reads-preserved
reads-preserved g c =
    let old = c.read_into.new.self in
    let whole : has_fault old ≡ false = c.read_into.ensures.has_fault in
    let fed : is_starved old ≡ false = c.in_ok-read_into.ensures.is_fed in
    let reading : old.condition ≡ Reading = it_reads old.condition whole fed in
    let condition = c.lacks_bytes.ensures.condition in
    let limit = c.lacks_bytes.ensures.limit in
    record {
      reads = λ held unfinished stands.
          let so_far = c.reads.invariant.reads held unfinished stands in
          let more = c.in_ok-read_into.ensures.more so_far.0 so_far.2 so_far.3 in
          let none = stands_none old.limit old c.lacks_bytes.new.self more.0 reading (condition ∙ reading) (c.lacks_bytes.ensures.waits c.if-not-lacks_bytes.false old.limit) more.2 in (
            more.0,
            Seeks-within _ limit (Seeks-on so_far.1 more.1),
            subst (λ (k : ℕ). BeginsUnfinished k more.0) (sym limit) none.0,
            stands_within _ _ c.lacks_bytes.new.self more.0 limit none.1,
          );
      limit = limit ∙ c.read_into.ensures.limit ∙ c.reads.invariant.limit;
      whole = rw condition whole;
      fed = rw condition fed;
      room = c.read_into.ensures.same_room;
      fewer = omega (arith, c.in_ok-read_into.ensures.fewer, c.reads.invariant.fewer);
    }
