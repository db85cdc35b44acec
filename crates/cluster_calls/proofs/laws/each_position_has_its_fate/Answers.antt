use Rattle.cluster_calls.proofs.LogLaws.Fates.{positions_known}
use Rattle.cluster_calls.proofs.laws.each_position_has_its_fate.Goals as goal

pub returns : goal.returns
returns c = positions_known
