use Rattle.cluster_routing.proofs.ServingShards.{topology_serves}
use Rattle.cluster_routing.proofs.laws.the_topology_serves_as_the_map_does.Goals as goal

pub returns : goal.returns
returns c = topology_serves
