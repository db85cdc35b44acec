use Rattle.std.proofs.Common.{◌∙◌}
use Rattle.cluster_routing.proofs.TuplesInTurn.{pushed_one}
use Rattle.cluster_routing.proofs.tuples.push_times.Goals as goal

pub loop-arg-preserved : goal.loop-arg-preserved
loop-arg-preserved c = c.loop-arg.invariant ∙ pushed_one c.args.slot c.args.tuple.now c.loop-arg.slots.items _ c.loop-arg.arg-index c.loop-arg-test.true c.in_ok-push.ensures.items
