use Rattle.cluster_routing.specs.Address.{same_address}
use Rattle.cluster_calls.proofs.ServerLaws.Regroup.{grouped_history}
use Rattle.cluster_calls.proofs.LinkLaws.Addresses.{same_true}
use Rattle.cluster_calls.proofs.laws.nodes_keep_histories.Goals as goal

pub returns : goal.returns
returns c = λ node_of nodes keys keys' steps d all. grouped_history same_address same_true node_of nodes keys keys' steps d all
