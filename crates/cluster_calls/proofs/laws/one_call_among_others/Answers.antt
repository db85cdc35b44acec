use Rattle.cluster_calls.proofs.ServerLaws.OneCall.{one_call_among}
use Rattle.cluster_calls.proofs.laws.one_call_among_others.Goals as goal

pub returns : goal.returns
returns c = one_call_among
