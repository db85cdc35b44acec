use Rattle.std.proofs.Common.{length}
use Rattle.cluster_routing.proofs.Placed.{Filled}
use Rattle.cluster_routing.proofs.combine.places.fill.Given as goal

abbrev pub invariant-items : goal.invariant-items
invariant-items l = Filled l.places l.fn.items.items l.items.items l.table.items

abbrev pub decreases-items : goal.decreases-items
decreases-items l = length l.items.items
