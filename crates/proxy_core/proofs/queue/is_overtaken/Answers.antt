use Rattle.std.proofs.Common.{◌≤◌, ◌<◌, ◌+◌, length, take, drop, sym, ◌∙◌, ap, arith}
use Rattle.proxy_core.specs.Fates.{may_be_done}
use Rattle.proxy_core.specs.Queue.{overtaken}
use Rattle.proxy_core.proofs.QueueLemmas.{scan_reads, scan_none, scan_waits, scan_hit, scan_miss_first, scan_miss_second}
use Rattle.proxy_core.proofs.queue.is_overtaken.Goals as goal
use Rattle.proxy_core.proofs.queue.is_overtaken.Goals.{in-Reads, in-Waits+in-Some+else-may_be_done, else-may_be_done-via-then-may_be_done+else-overlaps, else-may_be_done-via-else-may_be_done}

pub returns-in_default : goal.returns-in_default
returns-in_default g c =
    let past : length c.args.outcomes.now.items ≤ c.behind.next = c.in_default.ensures.item.3 in
    sym (scan_none g.C.Command.overlaps c.args.command.now c.args.behind.now.items c.args.outcomes.now.items c.args.count c.behind.i c.behind.next c.index.result.now c.in-Waits.later c.behind-test.true c.requires c.index.ensures c.in-Waits.is past) ∙ c.behind.invariant.same

pub returns-then-overlaps : goal.returns-then-overlaps
returns-then-overlaps g c =
    let inside : c.behind.next < length c.args.outcomes.now.items = c.in-Some.ensures.item.3.0 in
    sym (scan_waits g.C.Command.overlaps c.args.command.now c.args.behind.now.items c.args.outcomes.now.items c.args.count c.behind.i c.behind.next c.index.result.now c.in-Waits.later c.in-Some.outcome.now c.behind-test.true c.requires c.index.ensures c.in-Waits.is inside c.in-Some.ensures.lookup
    ∙ scan_hit _ _ _ (sym c.may_be_done.ensures ∙ c.if-may_be_done.true) (sym c.overlaps.ensures ∙ c.if-overlaps.true)) ∙ c.behind.invariant.same

pub behind-preserved : goal.behind-preserved
behind-preserved g c =
    elim c.match-index.branch [
      | in-Reads w ↦ record {
        in_range = omega arith;
        same = ap (λ n. overtaken g.C.Command.overlaps c.args.command.now (drop (c.behind.i + 1) (take c.args.count c.args.behind.now.items)) (drop n c.args.outcomes.now.items)) w.next-is
            ∙ sym (scan_reads g.C.Command.overlaps c.args.command.now c.args.behind.now.items c.args.outcomes.now.items c.args.count c.behind.i c.behind.next c.index.result.now w.in-Reads.field-0 c.behind-test.true c.requires c.index.ensures w.in-Reads.is)
            ∙ c.behind.invariant.same;
      }
      | in-Waits+in-Some+else-may_be_done w ↦
          let inside : c.behind.next < length c.args.outcomes.now.items = w.in-Some.ensures.item.3.0 in
          let steps = scan_waits g.C.Command.overlaps c.args.command.now c.args.behind.now.items c.args.outcomes.now.items c.args.count c.behind.i c.behind.next c.index.result.now w.in-Waits.later w.in-Some.outcome.now c.behind-test.true c.requires c.index.ensures w.in-Waits.is inside w.in-Some.ensures.lookup in
          record {
            in_range = omega arith;
            same = ap (λ n. overtaken g.C.Command.overlaps c.args.command.now (drop (c.behind.i + 1) (take c.args.count c.args.behind.now.items)) (drop n c.args.outcomes.now.items)) w.next-is
                ∙ sym (elim w.else-may_be_done.branch [
                  | else-may_be_done-via-then-may_be_done+else-overlaps w' ↦ scan_miss_second (may_be_done w.in-Some.outcome.now.fate) _ _ (sym w'.overlaps.ensures ∙ w'.if-overlaps.false)
                  | else-may_be_done-via-else-may_be_done w' ↦ scan_miss_first _ (g.C.Command.overlaps c.args.command.now w.in-Waits.later) _ (sym w.may_be_done.ensures ∙ w'.if-may_be_done.false)
                ])
                ∙ sym steps ∙ c.behind.invariant.same;
          }
    ]
