use Rattle.std.proofs.Common.{◌≡◌, ◌++◌, map, option_map}
use Rattle.cluster_routing.specs.Command.{all_bytes}
use Rattle.cluster_routing.proofs.routable.all_in.Given as goal

abbrev pub invariant-loop-arg : goal.invariant-loop-arg
invariant-loop-arg l = all_bytes l.fn.args ≡ option_map (λ rest. map (λ a. a.now) l.all.items ++ rest) (all_bytes l.arg-iterator)
