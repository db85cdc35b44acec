use Rattle.std.proofs.Common.{◌≡◌, ◌++◌, drop}
use Rattle.cluster_routing.proofs.combine.places.push_all.Given as goal

abbrev pub invariant-more : goal.invariant-more
invariant-more l = l.fn.places.items ++ l.more ≡ l.places.items ++ drop l.place-index l.more
