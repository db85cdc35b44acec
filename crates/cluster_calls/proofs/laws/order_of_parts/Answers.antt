use Rattle.cluster_calls.proofs.LogLaws.Order as orders
use Rattle.cluster_calls.proofs.laws.order_of_parts.Goals as goal

pub returns : goal.returns
returns c = orders.order_of_parts
