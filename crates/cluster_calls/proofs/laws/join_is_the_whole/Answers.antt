use Rattle.cluster_calls.proofs.ServerLaws.ReadJoin.{join_is_the_whole}
use Rattle.cluster_calls.proofs.laws.join_is_the_whole.Goals as goal

pub returns : goal.returns
returns c = join_is_the_whole
