use Rattle.proxy_core.proofs.LawProofs.{asks_once}
use Rattle.proxy_core.proofs.laws.asks_once.Goals as goal

pub returns : goal.returns
returns g c = asks_once g.C.Command.overlaps
