use Rattle.std.proofs.Common.{◌∙◌, sym}
use Rattle.cluster_routing.proofs.SameRoutings.{routings_tell}
use Rattle.cluster_routing.proofs.comparisons.equality_of_routings.Goals as goal

pub returns : goal.returns
returns c = let tells = routings_tell c.args.a.now c.args.b.now in (λ h. tells.0 (sym c.eq.ensures ∙ h), λ e. c.eq.ensures ∙ tells.1 e)
