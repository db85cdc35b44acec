use Rattle.cluster_routing.proofs.PartPlaces.{subs_are_at_their_places}
use Rattle.cluster_routing.proofs.laws.the_places_of_a_part_make_its_command.Goals as goal

pub returns : goal.returns
returns c = subs_are_at_their_places
