use Rattle.std.proofs.Common.{◌∙◌, ap, ◌^◌}
use Rattle.resp_core.specs.Numbers.{number_below}
use Rattle.resp_core.proofs.TextNumbers.{parsed, not_text}
use Rattle.cluster_routing.proofs.direction.number.Goals as goal

pub returns-in-Ok : goal.returns-in-Ok
returns-in-Ok c = c.ok.ensures.value ∙ parsed 64 c.in-Ok.text.now c.parse.result c.parse.ensures.value.0 ∙ ap (number_below (2 ^ 64)) c.in-Ok.ensures.cases.0

pub returns-in-Err : goal.returns-in-Err
returns-in-Err c = not_text (2 ^ 64) c.args.bytes.now c.in-Err.ensures.cases.0
