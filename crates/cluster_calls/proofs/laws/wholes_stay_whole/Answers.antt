use Rattle.cluster_calls.proofs.LogLaws.EachInParts.{wholes_stay_whole}
use Rattle.cluster_calls.proofs.laws.wholes_stay_whole.Goals as goal

pub returns : goal.returns
returns c = wholes_stay_whole
