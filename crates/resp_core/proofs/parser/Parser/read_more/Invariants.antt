use Rattle.std.proofs.Common.{List, ℕ, [], ◌≡◌, ◌≤◌, false, length}
use Rattle.resp_core.specs.Standing.{Stands, level_limit, has_fault, is_starved, BeginsUnfinished}
use Rattle.resp_core.specs.Incoming.{reading, Seeks}
use Rattle.resp_core.proofs.parser.Parser.read_more.Given as goal

abbrev pub invariant-reads : goal.invariant-reads
invariant-reads g l = record {
  reads : (held : List ℕ) → BeginsUnfinished (level_limit l.initial.self) held → Stands l.initial.self held → (rest : List ℕ)
      × Seeks (reading g.R.LinkRead.unread g.R.LinkRead.counts l.initial.reader (level_limit l.initial.self) held l.initial.allowed)
      (reading g.R.LinkRead.unread g.R.LinkRead.counts l.reader (level_limit l.self) rest l.allowed) []
      × BeginsUnfinished (level_limit l.self) rest × Stands l.self rest;
  limit : level_limit l.self ≡ level_limit l.initial.self;
  whole : has_fault l.self ≡ false;
  fed : is_starved l.self ≡ false;
  room : length l.room ≡ 4096;
  fewer : l.allowed ≤ l.initial.allowed;
}

abbrev pub decreases-reads : goal.decreases-reads
decreases-reads g l = l.allowed
