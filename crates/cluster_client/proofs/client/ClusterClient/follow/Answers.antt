use Rattle.std.proofs.Common.{◌≡◌, ◌<◌, ◌∙◌, refl, ap, sym, subst, length}
use Rattle.std.proofs.lemmas.List.{length-map}
use Rattle.std.proofs.lemmas.Result.{err_from_is_err_and}
use Rattle.cluster_routing.specs.Info.{texts}
use Rattle.cluster_calls.specs.Links.Log.{last_of}
use Rattle.cluster_calls.specs.Links.World.{nodes}
use Rattle.cluster_client.specs.Whole.{whole}
use Rattle.cluster_client.proofs.Logged.{chain_to, chain_with_room, grown_by}
use Rattle.cluster_steps.specs.Groups.{request_in}
use Rattle.cluster_steps.specs.Turns.{hop_to}
use Rattle.cluster_calls.proofs.LinkLaws.ChainLoop.{behind_request, followed_bad, with_args, loop_start, loop_err, loop_ok, loop_refused, loop_answered, loop_more}
use Rattle.cluster_client.proofs.client.ClusterClient.follow.Goals as goal

pub requests-init : goal.requests-init
requests-init g c = record {
  loop = loop_start _ _ _ _ c.requires.place;
  same = refl;
  within = c.requires.within;
  room = c.requires.room;
}

pub returns-in_err-reply-clause-made : goal.returns-in_err-reply-clause-made
returns-in_err-reply-clause-made g c =
    let p = err_from_is_err_and c.from_residual.result c.from_residual.ensures.1 in
    let is = with_args (request_in c.requests.request.dispatch) _ c.requests.invariant.same in
    rw (p.1, p.2) (loop_err _ _ _ _ _ _ _ _ c.requests.invariant.loop (record { entries = refl; settings = refl; picked = refl }) _ is _ c.in_err-reply.ensures.exchange (grown_by _ _ _ _ 1 c.requests.self.asked.ok.0 c.exchange_one.new.log.ok.0 c.in_err-reply.ensures.log_len) refl)

pub returns-in_err-value-clause-made : goal.returns-in_err-value-clause-made
returns-in_err-value-clause-made g c =
    let p = err_from_is_err_and c.from_residual-in_err-value.result c.from_residual-in_err-value.ensures.1 in
    let is = with_args (request_in c.requests.request.dispatch) _ c.requests.invariant.same in
    let made = loop_ok c.requests.invariant.loop _ _ _ is _ c.in_ok-reply.ensures.exchange in
    rw (p.1, p.2) (loop_refused _ _ _ _ _ _ _ _ c.requests.invariant.loop (record { entries = refl; settings = refl; picked = refl }) _ made.1 made.0 c.needs_refresh-self.ensures _ c.in_err-value.ensures.error (λ m. c.in_err-value.ensures.turns (λ k. m (cc k))))

pub returns-in-Answered-clause-made : goal.returns-in-Answered-clause-made
returns-in-Answered-clause-made g c =
    let is = with_args (request_in c.requests.request.dispatch) _ c.requests.invariant.same in
    let made = loop_ok c.requests.invariant.loop _ _ _ is _ c.in_ok-reply.ensures.exchange in
    let turns = rw c.in-Answered.is at (c.in_ok-value.ensures.turns (λ k. cc k)) in
    loop_answered _ _ _ _ _ _ _ _ c.requests.invariant.loop (record { entries = refl; settings = refl; picked = refl }) _ made.1 made.0 c.needs_refresh-self.ensures _ turns.1 turns.0 turns.2

pub sent_again-requires : goal.sent_again-requires
sent_again-requires g c =
    let is = with_args (request_in c.requests.request.dispatch) _ c.requests.invariant.same in
    let made = loop_ok c.requests.invariant.loop _ _ _ is _ c.in_ok-reply.ensures.exchange in
    rw c.deref.ensures.value (behind_request _ _ _ made.0).1

pub requests-preserved : goal.requests-preserved
requests-preserved g c =
    let is = with_args (request_in c.requests.request.dispatch) _ c.requests.invariant.same in
    let made = loop_ok c.requests.invariant.loop _ _ _ is _ c.in_ok-reply.ensures.exchange in
    let goes = rw c.in-On.is at (c.in_ok-value.ensures.turns (λ k. cc k)) in
    let on = rw c.in-On.is at c.in_ok-value.ensures.on in
    let some = rw c.in-On.is at c.in_ok-value.ensures.some in
    let within : c.in-On.next.link < length c.exchange_one.new.links.nodes.items = rw length-map at on.1 in
    let again = c.in_ok-again-in-On.ensures.args _ (ap last_of c.deref.ensures.value ∙ (behind_request _ _ _ made.0).0) in
    let hop : c.in_ok-request-in-On.request.dispatch.to ≡ c.in-On.next = ap (λ d. d.to) c.in_ok-request-in-On.ensures.dispatch ∙ c.in_ok-again-in-On.ensures.hop in
    let world = record (whole g.L.ConnectionLike.seen c.requests.self) { nodes = nodes g.L.ConnectionLike.seen c.exchange_one.new.links.nodes.items; needs_refresh = c.needs_refresh-self.result; log = c.exchange_one.new.log.items } in
    let more = loop_more _ _ world _ _ _ _ _ c.requests.invariant.loop (record { entries = refl; settings = refl; picked = refl }) _ made.1 made.0 c.needs_refresh-self.ensures (hop_to c.in-On.next) c.in-On.next.link goes (some refl) on.0 (followed_bad _ _ _ _ goes) in
    record {
      loop = chain_with_room _ world _ _ _ _ _ _ c.in_ok-request-in-On.ensures.log (chain_to _ world _ _ _ _ _ hop more);
      same = ap (λ d. texts d.args.items) c.in_ok-request-in-On.ensures.dispatch ∙ again;
      within = subst (λ p. p.link < c.exchange_one.new.links.nodes.len) (sym hop) (rw c.exchange_one.new.links.nodes.ok.0 within);
      room = c.in_ok-request-in-On.ensures.room;
    }

pub returns-in_err-again-in-On-clause-made : goal.returns-in_err-again-in-On-clause-made
returns-in_err-again-in-On-clause-made g c =
    let p = err_from_is_err_and c.from_residual-in_err-again-in-On.result c.from_residual-in_err-again-in-On.ensures.1 in
    let is = with_args (request_in c.requests.request.dispatch) _ c.requests.invariant.same in
    let made = loop_ok c.requests.invariant.loop _ _ _ is _ c.in_ok-reply.ensures.exchange in
    let goes = rw c.in-On.is at (c.in_ok-value.ensures.turns (λ k. cc k)) in
    rw (p.1, p.2) (loop_refused _ _ _ _ _ _ _ _ c.requests.invariant.loop (record { entries = refl; settings = refl; picked = refl }) _ made.1 made.0 c.needs_refresh-self.ensures _ (followed_bad _ _ _ _ goes) (λ m. absurd (m refl)))

pub returns-in_err-request-in-On-clause-made : goal.returns-in_err-request-in-On-clause-made
returns-in_err-request-in-On-clause-made g c =
    let p = err_from_is_err_and c.from_residual-in_err-request-in-On.result c.from_residual-in_err-request-in-On.ensures.1 in
    let is = with_args (request_in c.requests.request.dispatch) _ c.requests.invariant.same in
    let made = loop_ok c.requests.invariant.loop _ _ _ is _ c.in_ok-reply.ensures.exchange in
    let goes = rw c.in-On.is at (c.in_ok-value.ensures.turns (λ k. cc k)) in
    rw (p.1, p.2) (loop_refused _ _ _ _ _ _ _ _ c.requests.invariant.loop (record { entries = refl; settings = refl; picked = refl }) _ made.1 (c.in_err-request-in-On.ensures.log ∙ made.0) c.needs_refresh-self.ensures _ (followed_bad _ _ _ _ goes) (λ m. absurd (m refl)))
