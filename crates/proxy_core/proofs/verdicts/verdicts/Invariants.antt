use Rattle.std.proofs.Common.{◌-◌, take}
use Rattle.proxy_core.proofs.VerdictLemmas.{Behind}
use Rattle.proxy_core.proofs.verdicts.verdicts.Given as goal

abbrev pub invariant-behind : goal.invariant-behind
invariant-behind g l = Behind g.C.Command.overlaps g.C.Command.slots (take l.count l.behind.items) l.outcomes.items (l.count - l.i) l.next l.done l.told.items
