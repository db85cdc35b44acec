use Rattle.proxy_core.proofs.LawProofs.{keeps_order}
use Rattle.proxy_core.proofs.laws.keeps_order.Goals as goal

pub returns : goal.returns
returns g c = keeps_order g.C.Command.overlaps
