use Rattle.cluster_calls.proofs.LogLaws.SentNoMore.{none_again}
use Rattle.cluster_calls.proofs.laws.none_is_sent_again.Goals as goal

pub returns : goal.returns
returns c = none_again
