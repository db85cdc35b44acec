use Rattle.cluster_calls.proofs.LinkLaws.LinkCalls.{leaves}
use Rattle.cluster_calls.proofs.laws.unasked_nodes_stay.Goals as goal

pub returns : goal.returns
returns c = leaves
