use Rattle.std.specs.Prelude.{not}
use Rattle.std.proofs.Common.{◌≡◌, ◌++◌, map, drop, option_map}
use Rattle.resp_core.specs.View.{view}
use Rattle.resp_args.specs.Convert.{is_zero, traverse}
use Rattle.cluster_routing.specs.Policies.{int_in}
use Rattle.cluster_routing.proofs.combine.logical.flags_of.Given as goal

abbrev pub invariant-items : goal.invariant-items
invariant-items l = traverse (λ t. option_map (λ n. not (is_zero n)) (int_in t)) (map view l.items) ≡ option_map (λ rest. l.flags.items ++ rest) (traverse (λ t. option_map (λ n. not (is_zero n)) (int_in t)) (map view (drop l.item-index l.items)))
