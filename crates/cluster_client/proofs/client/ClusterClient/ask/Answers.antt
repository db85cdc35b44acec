use Rattle.std.proofs.Common.{◌≡◌, refl, ap}
use Rattle.std.proofs.lemmas.Result.{err_from_is_err_and}
use Rattle.resp_core.specs.Errors.{by_cause}
use Rattle.resp_core.specs.declared.errors.redis_error.Cause.TheVariants.{Memory}
use Rattle.resp_core.specs.View.{view}
use Rattle.cluster_steps.specs.Dispatches.{dispatch_of}
use Rattle.cluster_calls.specs.Links.World.{tree_result}
use Rattle.cluster_client.proofs.NodeLoop.{by_asking, node_lost, node_told, own_outcome}
use Rattle.cluster_client.proofs.client.ClusterClient.ask.Goals as goal

pub returns-in_err-reply-clause-asked : goal.returns-in_err-reply-clause-asked
returns-in_err-reply-clause-asked g c =
    let d = c.args.question.request.dispatch in
    let p = err_from_is_err_and c.from_residual.result c.from_residual.ensures.1 in
    let memory : c.in_err-reply.field-0.0 ≡ by_cause Memory = c.in_err-reply.ensures.only in
    rw (p.1, p.2, memory) (node_lost _ _ (dispatch_of d) (record { entries = refl; settings = refl; picked = refl }) (tree_result view c.exchange_one-reply.result) c.needs_refresh_by-self.ensures _ c.requires.placed.place _
    (by_asking (dispatch_of d) d.to.asking c.requires.placed.direct) c.exchange_one-reply.ensures.exchange (ap (tree_result view) c.in_err-reply.ensures.lacked))

pub returns-clause-asked : goal.returns-clause-asked
returns-clause-asked g c =
    let d = c.args.question.request.dispatch in
    rw (c.args.question.same, c.in_ok-reply.ensures.same) (node_told _ _ (dispatch_of d) (record { entries = refl; settings = refl; picked = refl }) (tree_result view c.exchange_one-reply.result) c.needs_refresh_by-self.ensures _ c.requires.placed.place _
    (by_asking (dispatch_of d) d.to.asking c.requires.placed.direct) c.exchange_one-reply.ensures.exchange _ (own_outcome c.exchange_one-reply.result (rw c.in_ok-reply.ensures.same at c.in_ok-reply.ensures.memory)))
