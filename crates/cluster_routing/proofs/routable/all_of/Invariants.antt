use Rattle.std.proofs.Common.{◌≡◌, ◌++◌, map, option_map, drop}
use Rattle.resp_core.specs.View.{view}
use Rattle.cluster_routing.specs.Command.{all_bytes, arg_in}
use Rattle.cluster_routing.proofs.routable.all_of.Given as goal

abbrev pub invariant-loop-item : goal.invariant-loop-item
invariant-loop-item l = all_bytes (map arg_in (map view l.items)) ≡ option_map (λ rest. map (λ a. a.now) l.all.items ++ rest) (all_bytes (map arg_in (map view (drop l.item-index l.items))))
