use Rattle.cluster_servers.proofs.LawProofs.{fates_of_one_command}
use Rattle.cluster_servers.proofs.laws.fates_of_one_command.Goals as goal

pub returns : goal.returns
returns c = fates_of_one_command
