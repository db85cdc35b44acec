use Rattle.std.proofs.Common.{◌≡◌, drop}
use Rattle.cluster_routing.specs.Command.{is_one_of}
use Rattle.cluster_routing.specs.Info.{texts}
use Rattle.cluster_routing.proofs.routing.is_among.Given as goal

abbrev pub invariant-loop-listed : goal.invariant-loop-listed
invariant-loop-listed l = is_one_of (texts l.names) l.name ≡ is_one_of (texts (drop l.listed-index l.names)) l.name
