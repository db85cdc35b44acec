use Rattle.std.proofs.Common.{◌∙◌, ◌∷◌, map, sym, ap, option_copied}
use Rattle.resp_core.specs.View.{view}
use Rattle.cluster_calls.specs.Calls.Transactions.{first_redirect}
use Rattle.cluster_steps.specs.Attempts.{heard}
use Rattle.cluster_steps.proofs.AttemptReplies.{exec_is}
use Rattle.cluster_steps.proofs.attempt_turn.redirect_in.Goals as goal

pub returns-in-Some : goal.returns-in-Some
returns-in-Some c =
    let rs = heard (map view c.args.replies.now) in
    c.redirect_or.ensures ∙ sym (ap (λ r. first_redirect (r ∷ rs)) (exec_is c.args.replies.now _ (ap option_copied (sym c.in-Some.is) ∙ c.last.ensures.value)))

pub returns-in-None : goal.returns-in-None
returns-in-None c =
    let rs = heard (map view c.args.replies.now) in
    c.first_redirect.ensures ∙ sym (ap (λ r. first_redirect (r ∷ rs)) (exec_is c.args.replies.now _ (ap option_copied (sym c.in-None.is) ∙ c.last.ensures.value)))
