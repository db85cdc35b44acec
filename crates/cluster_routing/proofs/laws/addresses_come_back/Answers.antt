use Rattle.cluster_routing.proofs.Addresses.{round_trip}
use Rattle.cluster_routing.proofs.laws.addresses_come_back.Goals as goal

pub returns : goal.returns
returns c = round_trip
