use Rattle.cluster_calls.proofs.LogLaws.Routed as routes
use Rattle.cluster_calls.proofs.laws.parts_are_routed.Goals as goal

pub returns : goal.returns
returns c = routes.parts_are_routed
