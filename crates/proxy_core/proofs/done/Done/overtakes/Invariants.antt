use Rattle.std.proofs.Common.{◌-◌, length}
use Rattle.proxy_core.proofs.DoneLemmas.{IsNone}
use Rattle.proxy_core.proofs.done.Done.overtakes.Given as goal

abbrev pub invariant-slots : goal.invariant-slots
invariant-slots g l = IsNone l.self (g.C.Command.slots l.command) l.index

abbrev pub decreases-slots : goal.decreases-slots
decreases-slots g l = length (g.C.Command.slots l.command) - l.index
