use Rattle.std.specs.Prelude.{◌==◌}
use Rattle.std.specs.List.{list_any}
use Rattle.std.proofs.Common.{◌≡◌, drop}
use Rattle.cluster_servers.proofs.command.overlap.Given as goal

abbrev pub invariant-slots : goal.invariant-slots
invariant-slots l = list_any (λ slot. list_any (λ other. other == slot) l.others) (drop l.slot-index l.slots) ≡ list_any (λ slot. list_any (λ other. other == slot) l.others) l.slots
