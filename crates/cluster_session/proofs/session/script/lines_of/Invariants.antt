use Rattle.std.proofs.Common.{◌≡◌, ◌++◌, length}
use Rattle.cluster_session.specs.Lines.{pieces}
use Rattle.cluster_session.specs.LinesRead.{words_in}
use Rattle.cluster_session.proofs.session.script.lines_of.Given as goal

abbrev pub invariant-lines : goal.invariant-lines
invariant-lines l = words_in l.lines.items ++ pieces 10 l.rest ≡ pieces 10 l.text

abbrev pub decreases-lines : goal.decreases-lines
decreases-lines l = length l.rest
