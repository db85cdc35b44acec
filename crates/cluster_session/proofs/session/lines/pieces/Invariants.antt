use Rattle.std.proofs.Common.{◌≡◌, ◌++◌, length}
use denote.Shadow.{shadow}
use denote.Text.{Utf8}
use Rattle.cluster_session.specs.Lines.{pieces}
use Rattle.cluster_session.specs.LinesRead.{words_in}
use Rattle.cluster_session.proofs.session.lines.pieces.Given as goal

abbrev pub invariant-pieces : goal.invariant-pieces
invariant-pieces l = shadow (Utf8 l.rest) × (words_in l.pieces.items ++ pieces l.separator l.rest ≡ pieces l.separator l.text)

abbrev pub decreases-pieces : goal.decreases-pieces
decreases-pieces l = length l.rest
