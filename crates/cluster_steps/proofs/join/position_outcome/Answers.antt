use Rattle.cluster_steps.proofs.join.position_outcome.Goals as goal

pub returns-in-Some-clause-outcome : goal.returns-in-Some-clause-outcome
returns-in-Some-clause-outcome c = rw c.in-Some.is c.outcome.ensures.outcome
