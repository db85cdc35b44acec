use Rattle.std.specs.Prelude.{min}
use Rattle.std.proofs.Common.{◌≡◌, ◌+◌, ◌-◌, ◌^◌, ◌≤◌}
use Rattle.std.specs.Io.KnownBytes.{Consumes}
use Rattle.cluster_session.proofs.session.streams.read_text.Given as goal

abbrev pub invariant-reading : goal.invariant-reading
invariant-reading g l = record {
  all : Consumes (g.R.LinkRead.unread l.initial.reader) (g.R.LinkRead.unread l.reader) l.text.items;
  refused : (g.R.LinkRead.counts l.reader).refused ≡ (g.R.LinkRead.counts l.initial.reader).refused;
  many : min ((g.R.LinkRead.counts l.initial.reader).reads + l.i) (2 ^ 64 - 1) ≤ (g.R.LinkRead.counts l.reader).reads;
  few : (g.R.LinkRead.counts l.reader).reads ≤ (g.R.LinkRead.counts l.initial.reader).reads + l.i;
}
