use Rattle.std.specs.Vec.Iter.{into_iter_items}
use Rattle.std.proofs.Common.{◌≡◌, ◌++◌, map, option_map}
use Rattle.resp_core.specs.View.{view}
use Rattle.resp_args.specs.Convert.{traverse}
use Rattle.cluster_routing.specs.Counted.{shown_counts}
use Rattle.cluster_routing.specs.Lists.{concat}
use Rattle.cluster_routing.specs.Policies.{counts_in}
use Rattle.cluster_routing.proofs.combine.maps.counts_in_all.Given as goal

abbrev pub invariant-values : goal.invariant-values
invariant-values l = option_map (λ lists. concat lists) (traverse counts_in (map view l.fn.values.items)) ≡ option_map (λ lists. shown_counts l.counts.items ++ concat lists) (traverse counts_in (map view (into_iter_items l.value-iterator)))
