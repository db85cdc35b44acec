use Rattle.cluster_routing.proofs.TuplesInTurn.{slotted_start, has_tuple, slotted_more, slotted_all}
use Rattle.cluster_routing.proofs.tuples.slots_of.Goals as goal

pub loop-passed-init : goal.loop-passed-init
loop-passed-init c = slotted_start c.args.width c.args.count c.args.args.now _ c.requires c.in_ok-slots.ensures.items

pub tuple_at-tuple-requires : goal.tuple_at-tuple-requires
tuple_at-tuple-requires c = has_tuple c.loop-passed.invariant c.loop-passed-test.true

pub loop-passed-preserved : goal.loop-passed-preserved
loop-passed-preserved c = slotted_more c.tuple_at-tuple.result.now c.slot_of.result c.loop-passed.invariant c.loop-passed-test.true c.tuple_at-tuple.ensures.tuple c.slot_of.ensures c.in_ok-push_times.ensures

pub returns : goal.returns
returns c = slotted_all c.loop-passed.invariant c.loop-passed-test.false
