use Rattle.cluster_calls.proofs.ServerLaws.Claim as claim
use Rattle.cluster_calls.proofs.laws.played_as_on_one_server.Goals as goal

pub returns : goal.returns
returns c = claim.played_as_on_one_server
