use Rattle.std.proofs.Common.{◌∙◌, refl, ap}
use Rattle.std.proofs.lemmas.Result.{err_from_is_err_and}
use Rattle.cluster_routing.specs.Seen.{addresses}
use Rattle.cluster_steps.specs.Groups.{request_in}
use Rattle.cluster_calls.proofs.LinkLaws.OneCommand.{not_begun}
use Rattle.cluster_calls.proofs.LinkLaws.Refreshing.{not_linked, exchange_err, exchange_ok, refresh_ok, refresh_refused}
use Rattle.cluster_client.proofs.Logged.{open_at}
use Rattle.cluster_client.proofs.client.ClusterClient.refresh.Goals as goal

pub returns-in_default-clause-made : goal.returns-in_default-clause-made
returns-in_default-clause-made g c =
    rw c.from.ensures (not_linked _ _ _ c.in_default.ensures.place (record { nodes = refl; log = c.begin.ensures.asked; entries = refl; settings = refl; flag = refl }) (ap addresses c.begin.ensures.picked))

pub returns-in_err-dispatch-clause-made : goal.returns-in_err-dispatch-clause-made
returns-in_err-dispatch-clause-made g c =
    let p = err_from_is_err_and c.from_residual.result c.from_residual.ensures.1 in
    rw (p.1, p.2) (not_begun _ _ _ _ (record { nodes = refl; log = c.begin.ensures.asked; entries = refl; settings = refl; flag = refl }) (ap addresses c.begin.ensures.picked))

pub returns-in_err-request-clause-made : goal.returns-in_err-request-clause-made
returns-in_err-request-clause-made g c =
    let p = err_from_is_err_and c.from_residual-in_err-request.result c.from_residual-in_err-request.ensures.1 in
    rw (p.1, p.2) (not_begun _ _ _ _ (record { nodes = refl; log = c.in_err-request.ensures.log ∙ c.begin.ensures.asked; entries = refl; settings = refl; flag = refl }) (ap addresses c.begin.ensures.picked))

pub returns-in_err-reply-clause-made : goal.returns-in_err-reply-clause-made
returns-in_err-reply-clause-made g c =
    let p = err_from_is_err_and c.from_residual-in_err-reply.result c.from_residual-in_err-reply.ensures.1 in
    let link = ap (λ d. d.to.link) c.in_ok-request.ensures.dispatch ∙ c.in_ok-dispatch.ensures.place in
    let at = open_at _ _ _ _ link c.in-Some.ensures.place in
    let is = ap request_in c.in_ok-request.ensures.dispatch ∙ c.in_ok-dispatch.ensures.request in
    rw (p.1, p.2) (exchange_err _ _ _ _ at _ (c.in_ok-request.ensures.log ∙ c.begin.ensures.asked) (request_in c.in_ok-request.request.dispatch) is refl (ap addresses c.begin.ensures.picked) _ c.in_err-reply.ensures.exchange refl refl)

pub returns-in_err-slots-clause-made : goal.returns-in_err-slots-clause-made
returns-in_err-slots-clause-made g c =
    let p = err_from_is_err_and c.from_residual-in_err-slots.result c.from_residual-in_err-slots.ensures.1 in
    let link = ap (λ d. d.to.link) c.in_ok-request.ensures.dispatch ∙ c.in_ok-dispatch.ensures.place in
    let at = open_at _ _ _ _ link c.in-Some.ensures.place in
    let is = ap request_in c.in_ok-request.ensures.dispatch ∙ c.in_ok-dispatch.ensures.request in
    let made = exchange_ok _ _ _ _ at _ _ (c.in_ok-request.ensures.log ∙ c.begin.ensures.asked) (request_in c.in_ok-request.request.dispatch) is _ c.in_ok-reply.ensures.exchange in
    rw (p.1, p.2) (refresh_refused _ _ _ c.in-Some.ensures.place.linked made.0 refl (ap addresses c.begin.ensures.picked) _ _ made.1 (λ m. c.in_err-slots.ensures (λ k. m (cc k))) refl refl)

pub returns-clause-made : goal.returns-clause-made
returns-clause-made g c =
    let link = ap (λ d. d.to.link) c.in_ok-request.ensures.dispatch ∙ c.in_ok-dispatch.ensures.place in
    let at = open_at _ _ _ _ link c.in-Some.ensures.place in
    let is = ap request_in c.in_ok-request.ensures.dispatch ∙ c.in_ok-dispatch.ensures.request in
    let made = exchange_ok _ _ _ _ at _ _ (c.in_ok-request.ensures.log ∙ c.begin.ensures.asked) (request_in c.in_ok-request.request.dispatch) is _ c.in_ok-reply.ensures.exchange in
    let accepted = c.in_ok-slots.ensures (λ k. cc k) in
    rw (c.renew_table.ensures, c.renew.ensures) (refresh_ok _ _ _ c.in-Some.ensures.place.linked made.0 refl (ap addresses c.begin.ensures.picked) _ made.1 accepted.0 accepted.1 refl)
