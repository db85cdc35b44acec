use Rattle.std.proofs.Common.{◌≡◌, ◌++◌, map, drop}
use Rattle.cluster_routing.proofs.tuples.push_times.Given as goal

abbrev pub invariant-loop-arg : goal.invariant-loop-arg
invariant-loop-arg l = l.fn.slots.items ++ map (λ _. l.slot) l.tuple ≡ l.slots.items ++ map (λ _. l.slot) (drop l.arg-index l.tuple)
