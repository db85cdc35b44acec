use Rattle.std.proofs.Common.{nat_eq, eqb-true}
use Rattle.cluster_calls.proofs.ServerLaws.Regroup.{grouped_history}
use Rattle.cluster_calls.proofs.laws.parts_keep_histories.Goals as goal

pub returns : goal.returns
returns c = λ parts keys keys' steps d all. grouped_history nat_eq eqb-true (λ s. s) parts keys keys' steps d all
