use Rattle.cluster_calls.proofs.LogLaws.SentOnce as bounds
use Rattle.cluster_calls.proofs.laws.requests_are_bounded.Goals as goal

pub returns : goal.returns
returns c = λ client picks call ds xs e legal. bounds.requests_are_bounded client picks call ds xs e legal
