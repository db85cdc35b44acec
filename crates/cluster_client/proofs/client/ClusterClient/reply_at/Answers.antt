use Rattle.std.proofs.Common.{◌≡◌, ◌∙◌, inl, inr, None, Err, refl, sym, ap}
use Rattle.std.proofs.lemmas.Result.{err_from_is_err_and}
use Rattle.resp_core.specs.Errors.{by_cause}
use Rattle.resp_core.specs.View.{view}
use Rattle.resp_core.specs.declared.errors.redis_error.Cause.TheVariants.{Memory}
use Rattle.cluster_routing.specs.Seen.{addresses}
use Rattle.cluster_calls.specs.Links.World.{tree_result}
use Rattle.cluster_calls.proofs.LinkLaws.OneCommand.{reply_not_begun}
use Rattle.cluster_calls.proofs.LinkLaws.OneNode.{not_placed, silent}
use Rattle.cluster_client.proofs.OneNode.{sent_there}
use Rattle.cluster_client.proofs.client.ClusterClient.reply_at.Goals as goal

pub returns-then-is_no_response-clause-made : goal.returns-then-is_no_response-clause-made
returns-then-is_no_response-clause-made g c =
    rw c.from.ensures (silent None _ _ _ c.args.cmd.now (sym c.is_no_response.ensures ∙ c.if-is_no_response.true) (record { nodes = refl; log = c.begin.ensures.asked; entries = refl; settings = refl; flag = refl }) (ap addresses c.begin.ensures.picked))

pub returns-in_err-dispatch-clause-made : goal.returns-in_err-dispatch-clause-made
returns-in_err-dispatch-clause-made g c =
    let p = err_from_is_err_and c.from_residual.result c.from_residual.ensures.1 in
    rw (p.1, p.2) (not_placed None _ _ _ c.args.cmd.now (sym c.is_no_response.ensures ∙ c.if-is_no_response.false) (record { nodes = refl; log = c.begin.ensures.asked; entries = refl; settings = refl; flag = refl }) (ap addresses c.begin.ensures.picked) _
    (λ m. c.in_err-dispatch.ensures.node (λ k. m (cc k))))

pub returns-in_err-request-clause-made : goal.returns-in_err-request-clause-made
returns-in_err-request-clause-made g c =
    let p = err_from_is_err_and c.from_residual-in_err-request.result c.from_residual-in_err-request.ensures.1 in
    rw (p.1, p.2) (reply_not_begun None _ _ _ (record { nodes = refl; log = c.in_err-request.ensures.log ∙ c.begin.ensures.asked; entries = refl; settings = refl; flag = refl }) (ap addresses c.begin.ensures.picked))

pub returns-in_err-outcome_in-clause-made : goal.returns-in_err-outcome_in-clause-made
returns-in_err-outcome_in-clause-made g c =
    let p = err_from_is_err_and c.from_residual-in_err-outcome_in.result c.from_residual-in_err-outcome_in.ensures.1 in
    let memory : c.in_err-outcome_in.field-0.0 ≡ by_cause Memory = c.in_err-outcome_in.ensures.only in
    rw (p.1, p.2) (sent_there None _ _ _ c.args.cmd.now (sym c.is_no_response.ensures ∙ c.if-is_no_response.false) _ c.in_ok-dispatch.ensures.placed (c.in_ok-dispatch.ensures.node (λ k. cc k)) c.in_ok-dispatch.ensures.args _ c.in_ok-request.ensures.dispatch
    refl refl (ap addresses c.begin.ensures.picked) _ (c.in_ok-request.ensures.log ∙ c.begin.ensures.asked) (tree_result view c.exchange_one-reply.result) c.needs_refresh_by-self.ensures c.exchange_one-reply.ensures.exchange _ (inl (ap Err memory, c.in_err-outcome_in.ensures.error)))

pub returns-clause-made : goal.returns-clause-made
returns-clause-made g c =
    sent_there None _ _ _ c.args.cmd.now (sym c.is_no_response.ensures ∙ c.if-is_no_response.false) _ c.in_ok-dispatch.ensures.placed (c.in_ok-dispatch.ensures.node (λ k. cc k)) c.in_ok-dispatch.ensures.args _ c.in_ok-request.ensures.dispatch
    refl refl (ap addresses c.begin.ensures.picked) _ (c.in_ok-request.ensures.log ∙ c.begin.ensures.asked) (tree_result view c.exchange_one-reply.result) c.needs_refresh_by-self.ensures c.exchange_one-reply.ensures.exchange _ (inr c.in_ok-outcome_in.ensures.outcome)

pub exchange_one-reply-requires-clause-within : goal.exchange_one-reply-requires-clause-within
exchange_one-reply-requires-clause-within g c = rw c.in_ok-request.ensures.dispatch c.in_ok-dispatch.ensures.placed.within
