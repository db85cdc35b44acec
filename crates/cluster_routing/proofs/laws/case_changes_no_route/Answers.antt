use Rattle.cluster_routing.proofs.LawProofs.{case_of_the_word}
use Rattle.cluster_routing.proofs.laws.case_changes_no_route.Goals as goal

pub returns : goal.returns
returns c = case_of_the_word
