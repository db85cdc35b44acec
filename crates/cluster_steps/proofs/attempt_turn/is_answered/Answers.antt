use Rattle.std.specs.Prelude.{◌&&◌, ◌||◌}
use Rattle.std.proofs.Common.{◌∙◌, Option, Some, map, sym, ap, option_copied}
use Rattle.resp_core.specs.Trees.{Tree}
use Rattle.resp_core.specs.View.{view}
use Rattle.cluster_calls.specs.Calls.Transactions.{answers, first_own_error, is_array, is_nil, is_okay, multi_reply}
use Rattle.cluster_steps.specs.Attempts.{heard}
use Rattle.cluster_calls.proofs.LogLaws.ExecAnswers.{no_answer}
use Rattle.cluster_steps.proofs.AttemptReplies.{exec_is}
use Rattle.cluster_steps.proofs.attempt_turn.is_answered.Goals as goal

pub returns-in-Some : goal.returns-in-Some
returns-in-Some c =
    let rs = heard (map view c.args.replies.now) in
    let exec : Option Tree = Some (view c.in-Some.exec.now) in
    c.answers.ensures
    ∙ ap (λ b. is_array exec || (b && (is_nil exec && c.are_clean-clean.result))) c.has_begun-begun.ensures
    ∙ ap (λ b. is_array exec || (is_okay (multi_reply rs) && (is_nil exec && b))) c.are_clean-clean.ensures
    ∙ sym (ap (answers (is_okay (multi_reply rs)) (first_own_error rs)) (exec_is c.args.replies.now _ (ap option_copied (sym c.in-Some.is) ∙ c.last.ensures.value)))

pub returns-in-None : goal.returns-in-None
returns-in-None c =
    let rs = heard (map view c.args.replies.now) in
    sym (ap (answers (is_okay (multi_reply rs)) (first_own_error rs)) (exec_is c.args.replies.now _ (ap option_copied (sym c.in-None.is) ∙ c.last.ensures.value)) ∙ no_answer (is_okay (multi_reply rs)) (first_own_error rs))
