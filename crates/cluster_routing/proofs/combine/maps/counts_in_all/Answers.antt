use Rattle.std.specs.Vec.Iter.{into_iter_items}
use Rattle.std.proofs.Common.{◌∙◌}
use Rattle.cluster_routing.specs.Counted.{shown_counts}
use Rattle.cluster_routing.proofs.Counting.{joined}
use Rattle.cluster_routing.proofs.combine.maps.counts_in_all.Goals as goal

pub values-preserved : goal.values-preserved
values-preserved c = c.values.invariant ∙ joined (shown_counts c.values.counts.items) (shown_counts c.push_counts.new.counts.items) (into_iter_items c.values.value-iterator) (into_iter_items c.next.new.self) c.in-Some.value c.in_ok-push_counts.field-0 c.in-Some.ensures.steps.0 c.in_ok-push_counts.ensures c.if-not-branch.false
