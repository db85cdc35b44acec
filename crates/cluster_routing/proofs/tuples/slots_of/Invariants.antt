use Rattle.cluster_routing.proofs.TuplesInTurn.{Slotted}
use Rattle.cluster_routing.proofs.tuples.slots_of.Given as goal

abbrev pub invariant-loop-passed : goal.invariant-loop-passed
invariant-loop-passed l = Slotted l.width l.args l.slots.items l.passed l.count l.start
