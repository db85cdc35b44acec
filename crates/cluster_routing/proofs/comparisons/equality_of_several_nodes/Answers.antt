use Rattle.std.proofs.Common.{◌∙◌, sym, None}
use Rattle.cluster_routing.proofs.SameRoutings.{several_tell}
use Rattle.cluster_routing.proofs.comparisons.equality_of_several_nodes.Goals as goal

pub returns : goal.returns
returns c = let tells = several_tell None c.args.a.now c.args.b.now in (λ h. tells.0 (sym c.eq.ensures ∙ h), λ e. c.eq.ensures ∙ tells.1 e)
