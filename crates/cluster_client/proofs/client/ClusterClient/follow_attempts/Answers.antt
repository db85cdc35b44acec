use Rattle.std.proofs.Common.{◌≡◌, ◌<◌, ◌∙◌, refl, ap, sym, subst, length}
use Rattle.std.proofs.lemmas.List.{length-map}
use Rattle.std.proofs.lemmas.Result.{err_from_is_err_and}
use Rattle.cluster_calls.specs.Calls.OneSlot.{args_of}
use Rattle.cluster_calls.specs.Calls.Transactions.{attempt}
use Rattle.cluster_calls.proofs.LinkLaws.AttemptLoop.{loop_start}
use Rattle.cluster_steps.specs.Turns.{hop_to}
use Rattle.cluster_client.specs.Whole.{whole}
use Rattle.cluster_client.proofs.Transacting.{attempt_answered, attempt_failed, attempt_more, attempt_stopped, attempt_to_hop, attempt_with_room}
use Rattle.cluster_client.proofs.client.ClusterClient.follow_attempts.Goals as goal

pub attempts-init : goal.attempts-init
attempts-init g c =
    let within : c.args.first.hop.link < length c.args.self.now.links.nodes.items = rw length-map at c.requires.placed.within in
    record {
      loop = loop_start _ _ _ _ c.requires.placed.place;
      same = c.requires.placed.requests;
      within = rw c.args.self.now.links.nodes.ok.0 within;
      room = c.requires.room;
    }

pub returns-in_err-replies : goal.returns-in_err-replies
returns-in_err-replies g c =
    let p = err_from_is_err_and c.from_residual.result c.from_residual.ensures.1 in
    rw (p.1, p.2) (attempt_failed _ _ _ _ _ _ _ _ c.attempts.invariant.loop _ c.attempts.invariant.same _ c.in_err-replies.ensures.exchanged)

pub returns-in_err-value : goal.returns-in_err-value
returns-in_err-value g c =
    let p = err_from_is_err_and c.from_residual-in_err-value.result c.from_residual-in_err-value.ensures.1 in
    rw (p.1, p.2) (attempt_answered _ _ _ _ _ _ _ _ c.attempts.invariant.loop _ c.attempts.invariant.same _ c.in_ok-replies.ensures.exchanged _ (λ m. c.in_err-value.ensures.turns (λ k. m (cc k))) (λ lacks. c.in_err-value.ensures.unanswered (cc lacks)))

pub returns-in-Answered : goal.returns-in-Answered
returns-in-Answered g c =
    let turns = rw c.in-Answered.is at (c.in_ok-value.ensures.turns (λ k. cc k)) in
    attempt_answered _ _ _ _ _ _ _ _ c.attempts.invariant.loop _ c.attempts.invariant.same _ c.in_ok-replies.ensures.exchanged _ (λ m. turns) (λ lacks. cc)

pub attempts-preserved : goal.attempts-preserved
attempts-preserved g c =
    let goes = rw c.in-On.is at (c.in_ok-value.ensures.turns (λ k. cc k)) in
    let on = rw c.in-On.is at c.in_ok-value.ensures.on in
    let some = rw c.in-On.is at c.in_ok-value.ensures.some in
    let within : c.in-On.hop.link < length c.exchange_attempt.new.self.links.nodes.items = rw length-map at on.1 in
    let hop : c.in_ok-attempt-in-On.attempt.hop ≡ c.in-On.hop = c.in_ok-attempt-in-On.ensures.hop in
    let more = attempt_more _ _ _ _ _ _ _ _ c.attempts.invariant.loop _ c.attempts.invariant.same _ c.in_ok-replies.ensures.exchanged (hop_to c.in-On.hop) c.in-On.hop.link goes (some refl) on.0 in
    record {
      loop = attempt_with_room _ (whole g.L.ConnectionLike.seen c.exchange_attempt.new.self) _ _ _ _ _ _ c.in_ok-attempt-in-On.ensures.log (attempt_to_hop _ _ _ _ _ _ _ hop more);
      same = c.in_ok-attempt-in-On.ensures.requests ∙ ap (λ p. attempt (hop_to p) (args_of c.args.commands.now)) (sym hop);
      within = subst (λ p. p.link < c.exchange_attempt.new.self.links.nodes.len) (sym hop) (rw c.exchange_attempt.new.self.links.nodes.ok.0 within);
      room = c.in_ok-attempt-in-On.ensures.room;
    }

pub returns-in_err-attempt-in-On : goal.returns-in_err-attempt-in-On
returns-in_err-attempt-in-On g c =
    let p = err_from_is_err_and c.from_residual-in_err-attempt-in-On.result c.from_residual-in_err-attempt-in-On.ensures.1 in
    let goes = rw c.in-On.is at (c.in_ok-value.ensures.turns (λ k. cc k)) in
    let on = rw c.in-On.is at c.in_ok-value.ensures.on in
    let some = rw c.in-On.is at c.in_ok-value.ensures.some in
    let more = attempt_more _ _ _ _ _ _ _ _ c.attempts.invariant.loop _ c.attempts.invariant.same _ c.in_ok-replies.ensures.exchanged (hop_to c.in-On.hop) c.in-On.hop.link goes (some refl) on.0 in
    rw (p.1, p.2) (attempt_stopped _ (whole g.L.ConnectionLike.seen c.exchange_attempt.new.self) _ _ _ _ _ _ c.in_err-attempt-in-On.ensures.log more)
