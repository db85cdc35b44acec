use Rattle.cluster_routing.proofs.LawProofs.{equal_tags}
use Rattle.cluster_routing.proofs.laws.equal_tags_have_equal_slots.Goals as goal

pub returns : goal.returns
returns c = equal_tags
