use Rattle.cluster_routing.proofs.OnceAscending.{order_agrees}
use Rattle.cluster_routing.proofs.laws.order_and_equality_agree.Goals as goal

pub returns : goal.returns
returns c = order_agrees
