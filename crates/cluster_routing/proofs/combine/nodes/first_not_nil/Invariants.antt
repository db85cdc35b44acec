use Rattle.std.specs.Vec.Iter.{into_iter_items}
use Rattle.std.proofs.Common.{◌≡◌}
use Rattle.cluster_routing.specs.Outcomes.{outcomes_of}
use Rattle.cluster_routing.specs.Policies.{first_not_nil, tree_or_refusal}
use Rattle.cluster_routing.proofs.NodeReplies.{first_from}
use Rattle.cluster_routing.proofs.combine.nodes.first_not_nil.Given as goal

abbrev pub invariant-outcomes : goal.invariant-outcomes
invariant-outcomes l = first_not_nil (outcomes_of l.fn.outcomes.items) ≡ first_from (tree_or_refusal l.so_far) (outcomes_of (into_iter_items l.outcome-iterator))
