use Rattle.cluster_servers.proofs.LawProofs.{fates_of_several}
use Rattle.cluster_servers.proofs.laws.fates_of_several.Goals as goal

pub returns : goal.returns
returns c = fates_of_several
