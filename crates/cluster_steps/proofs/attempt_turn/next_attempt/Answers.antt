use Rattle.std.specs.Prelude.{is_none}
use Rattle.std.proofs.Common.{◌≡◌, ◌∙◌, false, map, sym, ap}
use Rattle.std.proofs.lemmas.Result.{IfErr-weaker}
use Rattle.resp_core.specs.View.{view}
use Rattle.cluster_calls.specs.Calls.Transactions.{exec_answers, fate, redirect_in}
use Rattle.cluster_calls.proofs.LogLaws.ExecAnswers.{redirected_unanswered}
use Rattle.cluster_steps.specs.Attempts.{heard, seen}
use Rattle.cluster_steps.proofs.AttemptReplies.{done_so, none_stays, not_done_is, not_done_so}
use Rattle.cluster_steps.proofs.attempt_turn.next_attempt.Goals as goal

pub returns-in-None-clause-next : goal.returns-in-None-clause-next
returns-in-None-clause-next g c =
    rw (not_done_so (fate (heard (map view c.args.replies.now))) _ (sym c.is_not_done.ensures ∙ c.if-is_not_done.true)) (none_stays _ _ _ (sym c.redirect_in.ensures ∙ ap seen c.in-None.is))

pub returns-in-Some-clause-next : goal.returns-in-Some-clause-next
returns-in-Some-clause-next g c =
    rw (not_done_so (fate (heard (map view c.args.replies.now))) _ (sym c.is_not_done.ensures ∙ c.if-is_not_done.true), sym c.redirect_in.ensures ∙ ap seen c.in-Some.is) c.next_place.ensures.next

pub returns-else-is_not_done-clause-next : goal.returns-else-is_not_done-clause-next
returns-else-is_not_done-clause-next g c = sym (done_so (fate (heard (map view c.args.replies.now))) _ (sym c.is_not_done.ensures ∙ c.if-is_not_done.false))

pub returns-in-Some-clause-unanswered : goal.returns-in-Some-clause-unanswered
returns-in-Some-clause-unanswered g c =
    let rs = heard (map view c.args.replies.now) in
    let there : is_none (redirect_in rs) ≡ false = ap is_none (sym c.redirect_in.ensures ∙ ap seen c.in-Some.is) in
    IfErr-weaker c.next_place.result _ (λ e. exec_answers rs ≡ false) (λ e bad. redirected_unanswered rs (not_done_is (fate rs) (sym c.is_not_done.ensures ∙ c.if-is_not_done.true)) there) c.next_place.ensures.error
