use Rattle.cluster_calls.proofs.ServerLaws.OneCall.{one_call_among, one_call_alone}
use Rattle.cluster_calls.proofs.laws.one_call_as_on_one_server.Goals as goal

pub returns : goal.returns
returns c = one_call_alone one_call_among
