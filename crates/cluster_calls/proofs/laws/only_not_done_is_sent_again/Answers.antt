use Rattle.cluster_calls.proofs.LogLaws.Attempts as attempts
use Rattle.cluster_calls.proofs.laws.only_not_done_is_sent_again.Goals as goal

pub returns : goal.returns
returns c = λ client commands xs number legal less. attempts.only_not_done_is_sent_again client commands xs number legal less
