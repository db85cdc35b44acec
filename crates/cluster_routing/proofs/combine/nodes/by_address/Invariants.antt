use Rattle.std.specs.Vec.Iter.{into_iter_items}
use Rattle.std.proofs.Common.{◌≡◌, map}
use Rattle.resp_core.specs.View.{pair_view}
use Rattle.cluster_routing.specs.Outcomes.{outcomes_of, map_or_refusal}
use Rattle.cluster_routing.specs.Policies.{all_replies}
use Rattle.cluster_routing.proofs.NodeReplies.{pairs_behind}
use Rattle.cluster_routing.proofs.combine.nodes.by_address.Given as goal

abbrev pub invariant-outcomes : goal.invariant-outcomes
invariant-outcomes l = map_or_refusal (all_replies (outcomes_of l.fn.outcomes.items)) ≡ pairs_behind (map pair_view l.pairs.items) (all_replies (outcomes_of (into_iter_items l.outcome-iterator)))
