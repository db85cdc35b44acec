use Rattle.cluster_routing.proofs.LawProofs.{one_range}
use Rattle.cluster_routing.proofs.laws.the_one_range_serves.Goals as goal

pub returns : goal.returns
returns c = λ d. one_range
