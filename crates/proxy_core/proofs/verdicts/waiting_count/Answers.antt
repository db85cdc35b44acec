use Rattle.std.proofs.Common.{◌<◌, length, sym, ◌∙◌, arith}
use Rattle.proxy_core.proofs.VerdictLemmas.{waits_one, waits_none}
use Rattle.proxy_core.proofs.verdicts.waiting_count.Goals as goal
use Rattle.proxy_core.proofs.verdicts.waiting_count.Goals.{in-Reads, in-Waits}

pub entries-preserved : goal.entries-preserved
entries-preserved g c =
    let es = c.args.entries.now.items in
    let within : c.entries.i < length es = omega arith in
    let inv = c.entries.invariant in
    elim c.match-index.branch [
      | in-Reads w ↦
          let count = waits_none es c.entries.i c.index.result.now w.in-Reads.field-0 within c.index.ensures w.in-Reads.is in
          record { counted = w.waiting-is ∙ inv.counted ∙ sym count; bounded = omega arith }
      | in-Waits w ↦
          let count = waits_one es c.entries.i c.index.result.now w.in-Waits.field-0 within c.index.ensures w.in-Waits.is in
          record { counted = omega arith; bounded = omega arith }
    ]
