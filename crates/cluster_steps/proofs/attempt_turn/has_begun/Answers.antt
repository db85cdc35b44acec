use Rattle.std.proofs.Common.{◌∙◌, sym, ap, option_copied}
use Rattle.cluster_calls.specs.Calls.Transactions.{is_okay}
use Rattle.cluster_steps.proofs.AttemptReplies.{multi_is}
use Rattle.cluster_steps.proofs.attempt_turn.has_begun.Goals as goal

pub returns-in-Some : goal.returns-in-Some
returns-in-Some c = c.is_okay.ensures ∙ sym (ap is_okay (multi_is c.args.replies.now _ (ap option_copied (sym c.in-Some.is) ∙ c.first.ensures.value)))

pub returns-in-None : goal.returns-in-None
returns-in-None c = sym (ap is_okay (multi_is c.args.replies.now _ (ap option_copied (sym c.in-None.is) ∙ c.first.ensures.value)))
