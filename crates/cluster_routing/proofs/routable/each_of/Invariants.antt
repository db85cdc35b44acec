use Rattle.std.proofs.Common.{◌≡◌, ◌++◌, map, drop}
use Rattle.resp_core.specs.View.{view}
use Rattle.cluster_routing.specs.Command.{arg_in, texts_in}
use Rattle.cluster_routing.specs.Info.{lent_texts}
use Rattle.cluster_routing.proofs.routable.each_of.Given as goal

abbrev pub invariant-loop-item : goal.invariant-loop-item
invariant-loop-item l = texts_in (map arg_in (map view l.items)) ≡ lent_texts l.each.items ++ texts_in (map arg_in (map view (drop l.item-index l.items)))
