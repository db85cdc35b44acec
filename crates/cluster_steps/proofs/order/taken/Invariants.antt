use Rattle.cluster_calls.proofs.LinkLaws.Ordering.{Taking}
use Rattle.cluster_steps.proofs.order.taken.Given as goal

abbrev pub invariant-numbers : goal.invariant-numbers
invariant-numbers g l = Taking l.fn.items.items l.order l.number-index l.left.items l.all.items
