use Rattle.std.proofs.Common.{◌≡◌, drop}
use Rattle.cluster_routing.specs.Command.{is_one_of}
use Rattle.cluster_routing.specs.Rows.{names_of}
use Rattle.cluster_routing.proofs.table.is_listed.Given as goal

abbrev pub invariant-loop-listed : goal.invariant-loop-listed
invariant-loop-listed l = is_one_of (names_of l.names) l.name ≡ is_one_of (names_of (drop l.listed-index l.names)) l.name
