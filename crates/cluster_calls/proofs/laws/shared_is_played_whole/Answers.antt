use Rattle.cluster_calls.proofs.SharedPlay.Whole as whole
use Rattle.cluster_calls.proofs.laws.shared_is_played_whole.Goals as goal

pub returns : goal.returns
returns c = whole.shared_is_played_whole
