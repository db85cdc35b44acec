use Rattle.std.proofs.Common.{◌≡◌, ◌++◌}
use Rattle.cluster_routing.specs.Topology.{spans_of}
use Rattle.cluster_routing.proofs.shards.spans_of.Given as goal

abbrev pub invariant-ranges-2 : goal.invariant-ranges-2
invariant-ranges-2 l = spans_of l.nodes l.fn.ranges ≡ l.spans.items ++ spans_of l.nodes l.start-iterator
