use Rattle.std.specs.Vec.Iter.{into_iter_items}
use Rattle.std.proofs.Common.{◌≡◌, map}
use Rattle.resp_core.specs.View.{view}
use Rattle.cluster_routing.specs.Outcomes.{outcomes_of, trees_or_refusal}
use Rattle.cluster_routing.specs.Policies.{all_replies}
use Rattle.cluster_routing.proofs.NodeReplies.{trees_behind}
use Rattle.cluster_routing.proofs.combine.nodes.values_in.Given as goal

abbrev pub invariant-outcomes : goal.invariant-outcomes
invariant-outcomes l = trees_or_refusal (all_replies (outcomes_of l.fn.outcomes.items)) ≡ trees_behind (map view l.values.items) (all_replies (outcomes_of (into_iter_items l.outcome-iterator)))
