use Rattle.cluster_routing.proofs.Places.{parts_share}
use Rattle.cluster_routing.proofs.laws.parts_share_the_places.Goals as goal

pub returns : goal.returns
returns c = parts_share
