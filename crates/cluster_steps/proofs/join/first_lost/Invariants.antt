use Rattle.std.specs.List.{AllByRecursion}
use Rattle.std.proofs.Common.{◌≡◌, drop, map}
use Rattle.resp_core.specs.View.{view}
use Rattle.cluster_calls.specs.Calls.Each.{link_refusal}
use Rattle.cluster_calls.specs.Calls.Task.{first_refusal}
use Rattle.cluster_calls.specs.Links.World.{tree_result}
use Rattle.cluster_steps.specs.Joins.{IsTold}
use Rattle.cluster_steps.proofs.join.first_lost.Given as goal

abbrev pub invariant-outcomes : goal.invariant-outcomes
invariant-outcomes l = record {
  told : AllByRecursion IsTold (map (tree_result view) (drop l.outcome-index l.outcomes));
  same : first_refusal (map link_refusal (map (tree_result view) l.outcomes)) ≡ first_refusal (map link_refusal (map (tree_result view) (drop l.outcome-index l.outcomes)));
}
