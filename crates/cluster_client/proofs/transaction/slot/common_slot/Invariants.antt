use Rattle.std.proofs.Common.{◌≡◌, None, drop}
use Rattle.cluster_calls.specs.Calls.OneSlot.{common_slot}
use Rattle.cluster_client.proofs.transaction.slot.common_slot.Given as goal

abbrev pub invariant-commands : goal.invariant-commands
invariant-commands l = common_slot l.position l.common (drop l.position l.commands) ≡ common_slot 0 None l.commands
