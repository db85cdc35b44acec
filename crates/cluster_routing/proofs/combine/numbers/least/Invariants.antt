use Rattle.std.proofs.Common.{◌≡◌, map, drop, option_map}
use Rattle.resp_core.specs.View.{view}
use Rattle.resp_args.specs.Convert.{traverse}
use Rattle.cluster_routing.specs.Policies.{int_in, least}
use Rattle.cluster_routing.proofs.combine.numbers.least.Given as goal

abbrev pub invariant-values : goal.invariant-values
invariant-values l = option_map (λ ns. least l.first ns) (traverse int_in (map view l.more)) ≡ option_map (λ ns. least l.least ns) (traverse int_in (map view (drop l.value-index l.more)))
