use Rattle.std.proofs.Common.{◌∙◌}
use Rattle.resp_core.proofs.TextNumbers.{parsed}
use Rattle.resp_core.proofs.errors.redirect.number_of.Goals as goal

pub returns : goal.returns
returns c = c.ok.ensures.value ∙ parsed 16 c.args.text.now c.parse.result c.parse.ensures.value.0
