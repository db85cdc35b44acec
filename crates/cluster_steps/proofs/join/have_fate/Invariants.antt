use Rattle.std.specs.List.{list_all, AllByRecursion}
use Rattle.std.proofs.Common.{◌≡◌, drop, map}
use Rattle.resp_core.specs.View.{view}
use Rattle.cluster_calls.specs.Calls.Each.{fate_of}
use Rattle.cluster_calls.specs.Calls.EachInParts.{same_fate}
use Rattle.cluster_calls.specs.Links.World.{tree_result}
use Rattle.cluster_steps.specs.Joins.{IsTold, fate_in}
use Rattle.cluster_steps.proofs.join.have_fate.Given as goal

abbrev pub invariant-outcomes : goal.invariant-outcomes
invariant-outcomes l = record {
  told : AllByRecursion IsTold (map (tree_result view) (drop l.outcome-index l.outcomes));
  same : list_all (λ o. same_fate (fate_of o) (fate_in l.fate)) (map (tree_result view) l.outcomes) ≡ list_all (λ o. same_fate (fate_of o) (fate_in l.fate)) (map (tree_result view) (drop l.outcome-index l.outcomes));
}
