use Rattle.cluster_routing.proofs.WireRoutes.{routes_as_on_the_wire}
use Rattle.cluster_routing.proofs.laws.gaps_change_no_route.Goals as goal

pub returns : goal.returns
returns c = routes_as_on_the_wire
