use Rattle.std.proofs.Common.{◌∙◌, sym}
use Rattle.resp_core.proofs.SameTexts.{kinds_tell}
use Rattle.resp_core.proofs.comparisons.equality_of_kinds.Goals as goal

pub returns : goal.returns
returns c = let tells = kinds_tell c.args.a.now c.args.b.now in (λ h. tells.0 (sym c.eq.ensures ∙ h), λ e. c.eq.ensures ∙ tells.1 e)
