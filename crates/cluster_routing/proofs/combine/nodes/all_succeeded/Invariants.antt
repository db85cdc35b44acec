use Rattle.std.specs.Vec.Iter.{into_iter_items}
use Rattle.std.proofs.Common.{◌≡◌}
use Rattle.cluster_routing.specs.Outcomes.{outcomes_of}
use Rattle.cluster_routing.specs.Policies.{all_succeeded, tree_or_refusal}
use Rattle.cluster_routing.proofs.NodeReplies.{all_from}
use Rattle.cluster_routing.proofs.combine.nodes.all_succeeded.Given as goal

abbrev pub invariant-outcomes : goal.invariant-outcomes
invariant-outcomes l = all_succeeded (outcomes_of l.fn.outcomes.items) ≡ all_from (tree_or_refusal l.so_far) (outcomes_of (into_iter_items l.outcome-iterator))
