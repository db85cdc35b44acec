use Rattle.cluster_session.proofs.Scripts.{bad_line, next_line}
use Rattle.cluster_session.proofs.session.script.Script.add_lines.Goals as goal

pub returns-in-Err-Bad : goal.returns-in-Err-Bad
returns-in-Err-Bad c = bad_line c.args.lines.now c.lines.index _ _ _ _ c.lines-test.true c.lines.invariant c.in-Err-Bad.field-0-is c.in-Err-Bad.ensures

pub lines-preserved : goal.lines-preserved
lines-preserved c = next_line c.args.lines.now c.lines.index _ _ _ _ c.lines-test.true c.lines.invariant c.in-Ok.ensures
