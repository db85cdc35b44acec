use Rattle.cluster_calls.proofs.LogLaws.OneNodeOnce.{asked_once}
use Rattle.cluster_calls.proofs.laws.one_node_is_asked_once.Goals as goal

pub returns : goal.returns
returns c = asked_once
