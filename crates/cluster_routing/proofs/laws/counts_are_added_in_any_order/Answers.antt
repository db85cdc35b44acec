use Rattle.cluster_routing.proofs.CountsInTurn.{counts_in_any_order}
use Rattle.cluster_routing.proofs.laws.counts_are_added_in_any_order.Goals as goal

pub returns : goal.returns
returns c = counts_in_any_order
