use Rattle.std.proofs.Common.{◌≡◌, ◌++◌}
use Rattle.cluster_routing.specs.Command.{texts_in}
use Rattle.cluster_routing.specs.Info.{lent_texts}
use Rattle.cluster_routing.proofs.routable.each_in.Given as goal

abbrev pub invariant-loop-arg : goal.invariant-loop-arg
invariant-loop-arg l = texts_in l.fn.args ≡ lent_texts l.each.items ++ texts_in l.arg-iterator
