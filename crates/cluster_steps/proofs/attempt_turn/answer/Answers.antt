use Rattle.std.proofs.Common.{◌∙◌, map, sym}
use Rattle.resp_core.specs.View.{view}
use Rattle.cluster_steps.specs.Attempts.{heard}
use Rattle.cluster_steps.proofs.AttemptReplies.{answered_so, refused_so}
use Rattle.cluster_steps.proofs.attempt_turn.answer.Goals as goal

pub returns-then-is_answered : goal.returns-then-is_answered
returns-then-is_answered c = c.last_reply.ensures ∙ sym (answered_so (heard (map view c.args.replies.items)) _ (rw c.deref.ensures.value at c.is_answered.ensures) c.if-is_answered.true)

pub returns-else-is_answered : goal.returns-else-is_answered
returns-else-is_answered c = rw c.first_error.ensures (sym (refused_so (heard (map view c.args.replies.items)) _ (rw c.deref.ensures.value at c.is_answered.ensures) c.if-is_answered.false))
