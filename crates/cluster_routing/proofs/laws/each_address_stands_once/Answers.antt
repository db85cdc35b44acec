use Rattle.cluster_routing.proofs.OnceAscending.{each_address_once}
use Rattle.cluster_routing.proofs.laws.each_address_stands_once.Goals as goal

pub returns : goal.returns
returns c = each_address_once
