use Rattle.std.proofs.Common.{◌≡◌, ◌++◌, option_map}
use Rattle.resp_core.specs.MapIters.{owned_left}
use Rattle.resp_args.specs.Convert.{traverse}
use Rattle.cluster_routing.specs.Counted.{shown_counts}
use Rattle.cluster_routing.specs.Policies.{count_in}
use Rattle.cluster_routing.proofs.combine.maps.push_pairs.Given as goal

abbrev pub invariant-pairs : goal.invariant-pairs
invariant-pairs l = option_map (λ more. shown_counts l.fn.counts.items ++ more) (traverse count_in (owned_left l.fn.pairs)) ≡ option_map (λ more. shown_counts l.counts.items ++ more) (traverse count_in (owned_left l.pair-iterator))
