use Rattle.cluster_calls.proofs.MixedPlay.Whole as whole
use Rattle.cluster_calls.proofs.laws.four_are_played_whole.Goals as goal

pub returns : goal.returns
returns c = whole.four_are_played_whole
