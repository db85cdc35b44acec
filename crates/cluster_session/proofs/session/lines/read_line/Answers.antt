use Rattle.std.proofs.Common.{sym, ◌∙◌, ap}
use Rattle.cluster_session.specs.Lines.{said_by_text}
use Rattle.cluster_session.proofs.Scripts.{said_by_utf8, said_by_no_utf8}
use Rattle.cluster_session.proofs.session.lines.read_line.Goals as goal

pub returns-in_ok-read_text-in-Ok : goal.returns-in_ok-read_text-in-Ok
returns-in_ok-read_text-in-Ok c =
    said_by_utf8 c.args.line.now _ (sym c.is_skipped.ensures ∙ c.if-is_skipped.false) c.in-Ok.ensures.cases.1
    (ap said_by_text (sym c.in-Ok.ensures.cases.0) ∙ c.in_ok-read_text-in-Ok.ensures)

pub returns-in-Err : goal.returns-in-Err
returns-in-Err c = said_by_no_utf8 c.args.line.now (sym c.is_skipped.ensures ∙ c.if-is_skipped.false) c.in-Err.ensures.cases.0
