use Rattle.std.proofs.Common.{◌≡◌, drop, map}
use Rattle.resp_core.specs.View.{view}
use Rattle.cluster_calls.specs.Calls.Transactions.{first_redirect}
use Rattle.cluster_steps.specs.Attempts.{heard}
use Rattle.cluster_steps.proofs.attempt_turn.first_redirect.Given as goal

abbrev pub invariant-replies : goal.invariant-replies
invariant-replies l = first_redirect (heard (map view l.replies)) ≡ first_redirect (heard (map view (drop l.reply-index l.replies)))
