use Rattle.std.proofs.lemmas.Result.{err_from_is_err_and}
use Rattle.cluster_client.proofs.OneNode.{at_for_every}
use Rattle.cluster_client.proofs.client.ClusterClient.answer_to_at.Goals as goal

pub returns-in_err-reply : goal.returns-in_err-reply
returns-in_err-reply g c = λ strategy.
    let p = err_from_is_err_and c.from_residual.result c.from_residual.ensures.1 in
    rw (p.1, p.2) (at_for_every strategy _ _ _ _ _ c.in_err-reply.ensures.picks c.in_err-reply.ensures.made.made)

pub returns : goal.returns
returns g c = λ strategy. at_for_every strategy _ _ _ _ _ c.in_ok-reply.ensures.picks c.in_ok-reply.ensures.made.made
