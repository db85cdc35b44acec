use Rattle.std.proofs.Common.{◌≡◌, ◌-◌, ◌≤◌, length}
use Rattle.resp_core.specs.LineEnds.{returned_at}
use Rattle.resp_core.proofs.LineReads.{NoneBelow}
use Rattle.resp_core.proofs.parser.line.line_end.Given as goal

abbrev pub invariant-feeds : goal.invariant-feeds
invariant-feeds l = record {
  later : l.searched ≤ l.from;
  within : l.from ≤ length l.bytes;
  none : NoneBelow l.bytes (l.from - 1);
  returned : l.after_return ≡ returned_at l.bytes l.from;
}

abbrev pub decreases-feeds : goal.decreases-feeds
decreases-feeds l = length l.bytes - l.from
