use Rattle.std.proofs.lemmas.Result.{err_from_is_err_and}
use Rattle.cluster_calls.proofs.LinkLaws.EachCall.{each_made}
use Rattle.cluster_client.proofs.client.ClusterClient.answer_to_each.Goals as goal

pub returns-in_err-outcomes : goal.returns-in_err-outcomes
returns-in_err-outcomes g c = λ strategy.
    let p = err_from_is_err_and c.from_residual.result c.from_residual.ensures.1 in
    rw (p.1, p.2) (each_made strategy _ _ _ _ (c.in_err-outcomes.ensures strategy))

pub returns : goal.returns
returns g c = λ strategy. each_made strategy _ _ _ _ (c.in_ok-outcomes.ensures strategy)
