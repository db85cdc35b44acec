use Rattle.std.proofs.Common.{◌≡◌, drop, map}
use Rattle.resp_core.specs.View.{view}
use Rattle.cluster_calls.specs.Calls.Transactions.{first_own_error}
use Rattle.cluster_steps.specs.Attempts.{heard}
use Rattle.cluster_steps.proofs.attempt_turn.are_clean.Given as goal

abbrev pub invariant-replies : goal.invariant-replies
invariant-replies l = first_own_error (heard (map view l.replies)) ≡ first_own_error (heard (map view (drop l.reply-index l.replies)))
