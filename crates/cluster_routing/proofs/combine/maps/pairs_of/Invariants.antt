use Rattle.std.proofs.Common.{◌≡◌, ◌++◌, map, option_map, length}
use Rattle.resp_core.specs.View.{pair_view}
use Rattle.resp_args.specs.Convert.{traverse}
use Rattle.cluster_routing.specs.Counted.{shown_counts}
use Rattle.cluster_routing.specs.Policies.{count_pair}
use Rattle.cluster_routing.proofs.combine.maps.pairs_of.Given as goal

abbrev pub invariant-sums : goal.invariant-sums
invariant-sums l = traverse count_pair (shown_counts l.fn.sums.entries) ≡ option_map (λ rest. map pair_view l.pairs.items ++ rest) (traverse count_pair (shown_counts l.sums.entries))

abbrev pub decreases-sums : goal.decreases-sums
decreases-sums l = length l.sums.entries
