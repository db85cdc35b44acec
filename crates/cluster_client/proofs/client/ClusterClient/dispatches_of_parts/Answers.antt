use Rattle.std.proofs.lemmas.Result.{err_from_is_err_and}
use Rattle.cluster_calls.specs.Links.Happened.{client_of}
use Rattle.cluster_client.specs.Whole.{whole}
use Rattle.cluster_client.proofs.PipeParts.{planned_unpicked}
use Rattle.cluster_client.proofs.client.ClusterClient.dispatches_of_parts.Goals as goal

pub returns-in_err-all-clause-planned : goal.returns-in_err-all-clause-planned
returns-in_err-all-clause-planned g c =
    let world = whole g.L.ConnectionLike.seen c.args.self.now in
    let p = err_from_is_err_and c.from_residual.result c.from_residual.ensures.1 in
    rw (p.1, p.2) (λ m strategy entries are. planned_unpicked strategy (client_of world) entries _ _ _ are (c.in_err-all.ensures.dispatched (λ k. m (cc k)) world.settings))

pub returns-clause-planned : goal.returns-clause-planned
returns-clause-planned g c m strategy entries are =
    let world = whole g.L.ConnectionLike.seen c.args.self.now in
    planned_unpicked strategy (client_of world) entries _ _ _ are (c.in_ok-all.ensures.dispatched (λ k. cc k) world.settings)
