use Rattle.cluster_routing.proofs.TuplesInTurn.{count_fits}
use Rattle.cluster_routing.proofs.tuples.routes_of_tuples.Goals as goal

pub slots_of-requires : goal.slots_of-requires
slots_of-requires c = count_fits _ _ c.in-Some.count c.in-Some.ensures
