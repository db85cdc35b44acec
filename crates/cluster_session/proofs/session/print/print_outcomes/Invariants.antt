use Rattle.std.proofs.Common.{◌≡◌, ◌++◌, map, take, string_bytes}
use Rattle.std.specs.List.{flat_map}
use Rattle.resp_core.specs.View.{view}
use Rattle.cluster_calls.specs.Links.World.{tree_result}
use Rattle.cluster_session.specs.Printed.{outcome_line}
use Rattle.cluster_session.proofs.session.print.print_outcomes.Given as goal

abbrev pub invariant-loop-outcome : goal.invariant-loop-outcome
invariant-loop-outcome l =
    string_bytes l.output ≡ string_bytes l.initial.output
    ++ flat_map outcome_line (map (tree_result view) (take l.outcome-index l.outcomes))
