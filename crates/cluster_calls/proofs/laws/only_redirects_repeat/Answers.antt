use Rattle.cluster_calls.proofs.LogLaws.Repeats.{legal_repeats}
use Rattle.cluster_calls.proofs.laws.only_redirects_repeat.Goals as goal

pub returns : goal.returns
returns c = legal_repeats
