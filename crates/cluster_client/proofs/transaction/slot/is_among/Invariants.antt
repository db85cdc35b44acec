use Rattle.std.proofs.Common.{◌≡◌, drop}
use Rattle.cluster_routing.specs.Command.{is_one_of}
use Rattle.cluster_routing.specs.Rows.{names_of}
use Rattle.cluster_client.proofs.transaction.slot.is_among.Given as goal

abbrev pub invariant-names : goal.invariant-names
invariant-names l = is_one_of (names_of l.names) l.name ≡ is_one_of (names_of (drop l.known-index l.names)) l.name
