use Rattle.std.specs.Vec.Iter.{into_iter_items}
use Rattle.std.proofs.Common.{◌≡◌, map}
use Rattle.resp_core.specs.View.{view}
use Rattle.cluster_calls.specs.Calls.Transactions.{first_own_error}
use Rattle.cluster_steps.specs.Attempts.{heard}
use Rattle.cluster_steps.proofs.attempt_turn.first_error.Given as goal

abbrev pub invariant-replies : goal.invariant-replies
invariant-replies l = first_own_error (heard (map view l.fn.replies.items)) ≡ first_own_error (heard (map view (into_iter_items l.reply-iterator)))
