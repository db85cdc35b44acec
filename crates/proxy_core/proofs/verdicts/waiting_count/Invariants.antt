use Rattle.std.proofs.Common.{◌≡◌, ◌≤◌, length, take}
use Rattle.proxy_core.specs.Queue.{waiting}
use Rattle.proxy_core.proofs.verdicts.waiting_count.Given as goal

abbrev pub invariant-entries : goal.invariant-entries
invariant-entries g l = record {
  counted : l.waiting ≡ length (waiting (take l.i l.entries.items));
  bounded : l.waiting ≤ l.i;
}
