use Rattle.std.proofs.Common.{[]}
use Rattle.resp_core.proofs.WrittenTexts.{found_end}
use Rattle.resp_core.proofs.value.write.line_test.is_one_line.Goals as goal

pub returns-in-At : goal.returns-in-At
returns-in-At c = found_end c.args.bytes.now _ (c.in-At.ensures.ends.1 [])
