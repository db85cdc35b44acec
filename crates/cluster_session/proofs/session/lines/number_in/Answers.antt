use Rattle.std.proofs.Common.{◌∙◌}
use Rattle.resp_core.proofs.TextNumbers.{parsed}
use Rattle.cluster_session.proofs.session.lines.number_in.Goals as goal

pub returns : goal.returns
returns c = c.ok.ensures.value ∙ parsed 64 c.args.word.now c.parse.result c.parse.ensures.value.0
