use Rattle.std.proofs.Common.{◌≡◌, ◌++◌, map}
use Rattle.cluster_routing.specs.Outcomes.{outcomes_of}
use Rattle.cluster_client.specs.NodeRuns.{outcome_of_reply}
use Rattle.cluster_client.proofs.fan_out.outcomes.Given as goal

abbrev pub invariant-replies : goal.invariant-replies
invariant-replies l = record {
  split : l.fn.replies.items ≡ l.yielded ++ l.replied-iterator.rest.items;
  made : outcomes_of l.all.items ≡ map outcome_of_reply l.yielded;
}
