use Rattle.std.proofs.Common.{arith, refl, ◌∙◌, ◌++◌, take}
use Rattle.std.proofs.lemmas.Result.{on_ok_weaker}
use Rattle.resp_core.proofs.ReadingEnds.{Stops-bound, Stops-refused, Seeks-once}
use Rattle.resp_core.proofs.parser.Parser.read_into.Goals as goal

pub returns-then-allowed-eq0-clause-stops : goal.returns-then-allowed-eq0-clause-stops
returns-then-allowed-eq0-clause-stops g c _ held unfinished stands = (Stops-bound _ unfinished (omega arith), stands)

pub returns-in-Ok-clause-more : goal.returns-in-Ok-clause-more
returns-in-Ok-clause-more g c = on_ok_weaker c.feed_or_starve.result
    (λ fed held unfinished stands.
    let read = c.in-Ok.ensures in (
      held ++ take c.in-Ok.n c.read_some.new.buffer,
      Seeks-once _ _ c.read_some.new.buffer c.in-Ok.n unfinished read.bytes read.counts refl c.in-Ok.n-test.1 read.bound (c.read_some.auto.buffer ∙ c.requires.room) (omega arith) c.feed_or_starve.ensures.limit,
      fed held stands,
    ))
    c.feed_or_starve.ensures.ok

pub returns-in-Ok-clause-starves : goal.returns-in-Ok-clause-starves
returns-in-Ok-clause-starves g c is held unfinished stands =
    let read = c.in-Ok.ensures in (
      held ++ take c.in-Ok.n c.read_some.new.buffer,
      Seeks-once _ _ c.read_some.new.buffer c.in-Ok.n unfinished read.bytes read.counts refl c.in-Ok.n-test.1 read.bound (c.read_some.auto.buffer ∙ c.requires.room) (omega arith) c.feed_or_starve.ensures.limit,
    )

pub returns-in-Err-clause-stops : goal.returns-in-Err-clause-stops
returns-in-Err-clause-stops g c _ held unfinished stands =
    let read = c.in-Err.ensures in
    (Stops-refused _ _ c.read_some.new.buffer c.in-Err.field-0 unfinished read.bytes read.counts refl (omega arith) refl, stands)
