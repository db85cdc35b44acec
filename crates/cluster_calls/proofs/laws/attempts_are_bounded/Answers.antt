use Rattle.cluster_calls.proofs.LogLaws.Attempts as attempts
use Rattle.cluster_calls.proofs.laws.attempts_are_bounded.Goals as goal

pub returns : goal.returns
returns c = λ client commands xs legal. attempts.attempts_are_bounded client commands xs legal
