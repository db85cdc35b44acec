use Rattle.cluster_calls.proofs.LinkLaws.EachCall.{each_made}
use Rattle.cluster_calls.proofs.laws.each_is_a_call.Goals as goal

pub returns : goal.returns
returns c = each_made
