use Rattle.std.proofs.Common.{◌∙◌, sym, ap, option_copied}
use Rattle.cluster_calls.specs.Calls.Transactions.{is_refused}
use Rattle.cluster_steps.proofs.AttemptReplies.{exec_is}
use Rattle.cluster_steps.proofs.attempt_turn.is_refused.Goals as goal

pub returns-in-Some : goal.returns-in-Some
returns-in-Some c = c.is_refusal.ensures ∙ sym (ap is_refused (exec_is c.args.replies.now _ (ap option_copied (sym c.in-Some.is) ∙ c.last.ensures.value)))

pub returns-in-None : goal.returns-in-None
returns-in-None c = sym (ap is_refused (exec_is c.args.replies.now _ (ap option_copied (sym c.in-None.is) ∙ c.last.ensures.value)))
