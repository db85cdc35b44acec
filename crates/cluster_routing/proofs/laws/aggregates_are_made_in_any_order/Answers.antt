use Rattle.cluster_routing.proofs.AggregatesInTurn.{aggregates_in_any_order}
use Rattle.cluster_routing.proofs.laws.aggregates_are_made_in_any_order.Goals as goal

pub returns : goal.returns
returns c = aggregates_in_any_order
