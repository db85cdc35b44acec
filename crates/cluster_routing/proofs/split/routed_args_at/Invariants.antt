use Rattle.std.proofs.Common.{◌≡◌, ◌++◌, map, drop}
use Rattle.cluster_routing.specs.Info.{lent_texts, shown_parts, shown_routed}
use Rattle.cluster_routing.specs.Split.{sub_of}
use Rattle.cluster_routing.proofs.split.routed_args_at.Given as goal

abbrev pub invariant-routes : goal.invariant-routes
invariant-routes l = map (λ p. (p.0, sub_of (lent_texts l.args) p.1)) (shown_parts l.fn.routes) ≡ shown_routed l.routed.items ++ map (λ p. (p.0, sub_of (lent_texts l.args) p.1)) (shown_parts (drop l.part-index l.fn.routes))
