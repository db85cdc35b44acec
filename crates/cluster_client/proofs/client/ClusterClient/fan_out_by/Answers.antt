use Rattle.std.proofs.Common.{◌≡◌, None, refl, sym, ap}
use Rattle.std.proofs.lemmas.Result.{err_from_is_err_and}
use Rattle.resp_core.specs.Errors.{by_cause}
use Rattle.resp_core.specs.declared.errors.redis_error.Cause.TheVariants.{Memory}
use Rattle.cluster_routing.specs.Seen.{addresses}
use Rattle.cluster_calls.specs.Links.Happened.{client_of}
use Rattle.cluster_calls.proofs.LinkLaws.OneCommand.{not_begun}
use Rattle.cluster_client.specs.Whole.{whole}
use Rattle.cluster_client.proofs.SeveralNodes.{fan_made, fan_not_sent, list_apart, made_of}
use Rattle.cluster_client.proofs.client.ClusterClient.fan_out_by.Goals as goal

pub returns-in_err-direction : goal.returns-in_err-direction
returns-in_err-direction g c =
    let p = err_from_is_err_and c.from_residual.result c.from_residual.ensures.1 in
    rw (p.1, p.2) (λ strategy. not_begun strategy _ _ _ (record { nodes = refl; log = c.begin.ensures.asked; entries = refl; settings = refl; flag = refl }) (ap addresses c.begin.ensures.picked))

pub returns-in_err-list : goal.returns-in_err-list
returns-in_err-list g c =
    let p = err_from_is_err_and c.from_residual-in_err-list.result c.from_residual-in_err-list.ensures.1 in
    let world = whole g.L.ConnectionLike.seen c.args.self.now in
    rw (p.1, p.2) (λ strategy. fan_not_sent strategy _ _ c.args.cmd.now _ (record { nodes = refl; log = c.begin.ensures.asked; entries = refl; settings = refl; flag = refl }) (ap addresses c.begin.ensures.picked)
    (λ m. c.in_err-list.ensures.planned (λ k. m (cc k)) strategy (client_of world) refl (sym c.map.ensures)))

pub ask_each-requires-clause-apart : goal.ask_each-requires-clause-apart
ask_each-requires-clause-apart g c =
    let client = client_of (whole g.L.ConnectionLike.seen c.args.self.now) in
    let planned = c.in_ok-list.ensures.planned (λ k. cc k) None client refl (sym c.map.ensures) in
    list_apart client c.args.cmd.now _ planned.planned

pub returns-in_err-replies : goal.returns-in_err-replies
returns-in_err-replies g c =
    let p = err_from_is_err_and c.from_residual-in_err-replies.result c.from_residual-in_err-replies.ensures.1 in
    let world = whole g.L.ConnectionLike.seen c.args.self.now in
    rw (p.1, p.2) (λ strategy.
    let planned = c.in_ok-list.ensures.planned (λ k. cc k) strategy (client_of world) refl (sym c.map.ensures) in
    fan_made strategy world _ _ _ c.args.cmd.now _ _ _ c.begin.ensures.asked (ap addresses c.begin.ensures.picked) planned c.in_err-replies.ensures refl)

pub returns-in_err-outcomes : goal.returns-in_err-outcomes
returns-in_err-outcomes g c =
    let p = err_from_is_err_and c.from_residual-in_err-outcomes.result c.from_residual-in_err-outcomes.ensures.1 in
    let memory : c.in_err-outcomes.field-0.0 ≡ by_cause Memory = c.in_err-outcomes.ensures.only in
    let world = whole g.L.ConnectionLike.seen c.args.self.now in
    rw (p.1, p.2, memory) (λ strategy.
    let planned = c.in_ok-list.ensures.planned (λ k. cc k) strategy (client_of world) refl (sym c.map.ensures) in
    fan_made strategy world _ _ _ c.args.cmd.now _ _ _ c.begin.ensures.asked (ap addresses c.begin.ensures.picked) planned c.in_ok-replies.ensures (λ had. absurd (had refl)))

pub returns : goal.returns
returns g c = λ strategy.
    let world = whole g.L.ConnectionLike.seen c.args.self.now in
    let planned = c.in_ok-list.ensures.planned (λ k. cc k) strategy (client_of world) refl (sym c.map.ensures) in
    let made = rw c.in_ok-outcomes.ensures.outcomes at c.reply_of_nodes.ensures in
    fan_made strategy world _ _ _ c.args.cmd.now _ _ _ c.begin.ensures.asked (ap addresses c.begin.ensures.picked) planned c.in_ok-replies.ensures
    (made_of c.args.cmd.now _ _ _ c.in_ok-list.ensures.policy made)
