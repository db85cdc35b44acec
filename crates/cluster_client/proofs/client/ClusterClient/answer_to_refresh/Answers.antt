use Rattle.std.proofs.lemmas.Result.{err_from_is_err_and}
use Rattle.cluster_calls.proofs.LinkLaws.AnyStrategy.{refresh_for_every}
use Rattle.cluster_client.proofs.client.ClusterClient.answer_to_refresh.Goals as goal

pub returns-in_err-refresh : goal.returns-in_err-refresh
returns-in_err-refresh g c = λ strategy.
    let p = err_from_is_err_and c.from_residual.result c.from_residual.ensures.1 in
    rw (p.1, p.2) (refresh_for_every strategy _ _ _ _ c.in_err-refresh.ensures.picks c.in_err-refresh.ensures.made)

pub returns : goal.returns
returns g c = λ strategy. refresh_for_every strategy _ _ _ _ c.in_ok-refresh.ensures.picks c.in_ok-refresh.ensures.made
