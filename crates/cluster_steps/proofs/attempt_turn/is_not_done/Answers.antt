use Rattle.std.specs.Prelude.{◌&&◌}
use Rattle.std.proofs.Common.{◌≡◌, ◌∙◌, true, false, map, sym, ap}
use Rattle.resp_core.specs.View.{view}
use Rattle.cluster_calls.specs.Calls.Transactions.{exec_reply, is_okay, is_refused, multi_reply}
use Rattle.cluster_steps.specs.Attempts.{heard}
use Rattle.cluster_steps.proofs.AttemptReplies.{not_done_by}
use Rattle.cluster_steps.proofs.attempt_turn.is_not_done.Goals as goal

pub returns-then-begun : goal.returns-then-begun
returns-then-begun c =
    let rs = heard (map view c.args.replies.now) in
    let begun : is_okay (multi_reply rs) ≡ true = sym c.has_begun-begun.ensures ∙ c.if-begun.true in
    c.is_refused-refused.ensures ∙ ap (λ b. b && is_refused (exec_reply rs)) (sym begun) ∙ sym (not_done_by (is_okay (multi_reply rs)) (exec_reply rs))

pub returns-else-begun : goal.returns-else-begun
returns-else-begun c =
    let rs = heard (map view c.args.replies.now) in
    let unbegun : is_okay (multi_reply rs) ≡ false = sym c.has_begun-begun.ensures ∙ c.if-begun.false in
    c.if-begun.false ∙ ap (λ b. b && is_refused (exec_reply rs)) (sym unbegun) ∙ sym (not_done_by (is_okay (multi_reply rs)) (exec_reply rs))
