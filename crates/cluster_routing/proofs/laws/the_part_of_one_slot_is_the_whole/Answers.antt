use Rattle.cluster_routing.proofs.PartPlaces.{one_slot_is_the_whole}
use Rattle.cluster_routing.proofs.laws.the_part_of_one_slot_is_the_whole.Goals as goal

pub returns : goal.returns
returns c = one_slot_is_the_whole
