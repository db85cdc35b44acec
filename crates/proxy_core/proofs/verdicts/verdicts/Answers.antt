use Rattle.std.proofs.Common.{◌≡◌, ◌+◌, ◌-◌, ◌<◌, length, take, sym, ◌∙◌, arith}
use Rattle.std.proofs.lemmas.List.{get_or-take, length-take-le}
use Rattle.proxy_core.proofs.VerdictLemmas.{behind_starts, behind_has, behind_reads, behind_none, behind_done, behind_undone}
use Rattle.proxy_core.proofs.verdicts.verdicts.Goals as goal
use Rattle.proxy_core.proofs.verdicts.verdicts.Goals.{in-Reads, in-Waits+in-Some+then-may_be_done+in_ok-add-in-Waits, in-Waits+in-Some+else-may_be_done+in_ok-push-in-Waits, in-Waits+in_default}

pub behind-init : goal.behind-init
behind-init g c =
    let es = take c.args.count c.args.behind.now.items in
    let len : length es ≡ c.args.count = length-take-le c.args.count c.args.behind.now.items c.requires in
    rw c.new-told.ensures.items
    (behind_starts g.C.Command.overlaps g.C.Command.slots es c.args.outcomes.now.items (c.args.count - 0) c.waiting_count-next.result c.new-done.result
    (omega arith) c.waiting_count-next.ensures c.new-done.ensures)

pub overflow_sub-next : goal.overflow_sub-next
overflow_sub-next g c =
    let es = take c.args.count c.args.behind.now.items in
    let len : length es ≡ c.args.count = length-take-le c.args.count c.args.behind.now.items c.requires in
    let i = c.args.count - 1 - c.behind.i in
    let within : i < length es = omega arith in
    let below : i < c.args.count = omega arith in
    let at = c.index.ensures ∙ sym (get_or-take c.args.count c.args.behind.now.items i c.index.result.now below) in
    let had = behind_has g.C.Command.overlaps g.C.Command.slots es c.args.outcomes.now.items i (c.args.count - c.behind.i) c.behind.next c.behind.done c.behind.told.items
    c.index.result.now c.in-Waits.later (omega arith) within at c.in-Waits.is c.behind.invariant in
    omega arith

pub behind-preserved : goal.behind-preserved
behind-preserved g c =
    let es = take c.args.count c.args.behind.now.items in
    let len : length es ≡ c.args.count = length-take-le c.args.count c.args.behind.now.items c.requires in
    let os = c.args.outcomes.now.items in
    let i = c.args.count - 1 - c.behind.i in
    let j = c.args.count - c.behind.i in
    let next = c.behind.next in
    let within : i < length es = omega arith in
    let below : i < c.args.count = omega arith in
    let at = c.index.ensures ∙ sym (get_or-take c.args.count c.args.behind.now.items i c.index.result.now below) in
    let before : j ≡ i + 1 = omega arith in
    let same : c.args.count - (c.behind.i + 1) ≡ i = omega arith in
    let inv = c.behind.invariant in
    elim c.match-index.branch [
      | in-Reads w ↦ rw (same, w.told-is, w.done-is, w.next-is)
          (behind_reads g.C.Command.overlaps g.C.Command.slots es os i j next c.behind.done c.behind.told.items
          c.index.result.now w.in-Reads.field-0 before within at w.in-Reads.is inv)
      | in-Waits+in-Some+then-may_be_done+in_ok-add-in-Waits w ↦
          let had = behind_has g.C.Command.overlaps g.C.Command.slots es os i j next c.behind.done c.behind.told.items
          c.index.result.now w.in-Waits.later before within at w.in-Waits.is inv in
          let now : (next - 1) + 1 ≡ next = omega arith in
          rw (same, w.told-is, w.done-is, w.next-is)
          (behind_done g.C.Command.overlaps g.C.Command.slots g.met.C.Command.overlaps_by_slots es os i j next (next - 1) c.behind.done w.add.new.self c.behind.told.items
          c.index.result.now w.in-Waits.later w.in-Some.outcome.now before within at w.in-Waits.is
          now w.in-Some.ensures.item.3.0 w.in-Some.ensures.lookup (sym w.may_be_done.ensures ∙ w.if-may_be_done.true) w.in_ok-add-in-Waits.ensures inv)
      | in-Waits+in-Some+else-may_be_done+in_ok-push-in-Waits w ↦
          let had = behind_has g.C.Command.overlaps g.C.Command.slots es os i j next c.behind.done c.behind.told.items
          c.index.result.now w.in-Waits.later before within at w.in-Waits.is inv in
          let now : (next - 1) + 1 ≡ next = omega arith in
          rw (same, w.told-is, w.done-is, w.next-is, w.in_ok-push-in-Waits.ensures.items)
          (behind_undone g.C.Command.overlaps g.C.Command.slots es os i j next (next - 1) c.behind.done c.behind.told.items
          c.index.result.now w.in-Waits.later w.in-Some.outcome.now w.overtakes.result before within at w.in-Waits.is
          now w.in-Some.ensures.item.3.0 w.in-Some.ensures.lookup (sym w.may_be_done.ensures ∙ w.if-may_be_done.false) w.overtakes.ensures inv)
      | in-Waits+in_default w ↦
          let had = behind_has g.C.Command.overlaps g.C.Command.slots es os i j next c.behind.done c.behind.told.items
          c.index.result.now w.in-Waits.later before within at w.in-Waits.is inv in
          let now : (next - 1) + 1 ≡ next = omega arith in
          rw (same, w.told-is, w.done-is, w.next-is)
          (behind_none g.C.Command.overlaps g.C.Command.slots es os i j next (next - 1) c.behind.done c.behind.told.items
          c.index.result.now w.in-Waits.later before within at w.in-Waits.is
          now w.in_default.ensures.item.3 inv)
    ]
