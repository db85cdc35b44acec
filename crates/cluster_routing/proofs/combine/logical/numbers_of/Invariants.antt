use Rattle.std.proofs.Common.{◌≡◌, ◌++◌, map, drop}
use Rattle.resp_core.specs.View.{view}
use Rattle.cluster_routing.specs.Policies.{flag_tree}
use Rattle.cluster_routing.proofs.combine.logical.numbers_of.Given as goal

abbrev pub invariant-flags : goal.invariant-flags
invariant-flags l = map flag_tree l.flags ≡ map view l.numbers.items ++ map flag_tree (drop l.flag-index l.flags)
