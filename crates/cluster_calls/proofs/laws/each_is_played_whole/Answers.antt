use Rattle.cluster_calls.proofs.EachPlay.Whole as whole
use Rattle.cluster_calls.proofs.laws.each_is_played_whole.Goals as goal

pub returns : goal.returns
returns c = whole.each_is_played_whole
