use Rattle.std.proofs.Common.{◌≡◌, ◌∷◌, map, drop, option_and_then}
use Rattle.resp_core.specs.View.{view}
use Rattle.resp_args.specs.Convert.{traverse}
use Rattle.cluster_routing.specs.Policies.{all_flags, flags_in}
use Rattle.cluster_routing.proofs.combine.logical.with_flags.Given as goal

abbrev pub invariant-more : goal.invariant-more
invariant-more l = option_and_then (λ lists. all_flags (l.fn.flags.items ∷ lists)) (traverse flags_in (map view l.more)) ≡ option_and_then (λ lists. all_flags (l.flags.items ∷ lists)) (traverse flags_in (map view (drop l.value-index l.more)))
