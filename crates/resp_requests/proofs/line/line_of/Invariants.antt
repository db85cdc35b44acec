use Rattle.resp_requests.specs.Searches.{Unended}
use Rattle.resp_requests.proofs.line.line_of.Given as goal

abbrev pub invariant-bytes : goal.invariant-bytes
invariant-bytes l = record {
  here : Unended l.end l.longest l.bytes l.i;
  searched : Unended l.end l.longest l.bytes l.searched;
}
