use Rattle.std.proofs.Common.{arith}
use Rattle.stream_commands.proofs.Forms.{last-refused}
use Rattle.stream_commands.proofs.records.forms.ends_with_number.Goals as goal

pub returns-in-len4 : goal.returns-in-len4
returns-in-len4 c = λ h. last-refused c.args.parts.now c.last-item.result (grind arith) c.last-item.is (c.is_number.ensures h)
