use Rattle.cluster_calls.proofs.LogLaws.EachAnswer.{answer_by_outcomes}
use Rattle.cluster_calls.proofs.laws.outcomes_make_the_answer.Goals as goal

pub returns : goal.returns
returns c = answer_by_outcomes
