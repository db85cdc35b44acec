use Rattle.std.proofs.Common.{◌≡◌, suc, drop}
use Rattle.cluster_session.specs.LinesRead.{words_in}
use Rattle.cluster_session.specs.Script.{add_lines}
use Rattle.cluster_session.specs.ScriptRead.{draft_in}
use Rattle.cluster_session.proofs.session.script.Script.add_lines.Given as goal

abbrev pub invariant-lines : goal.invariant-lines
invariant-lines l =
    add_lines (suc l.index) (words_in (drop l.index l.lines)) (draft_in l.self) ≡ add_lines 1 (words_in l.lines) (draft_in l.initial.self)
