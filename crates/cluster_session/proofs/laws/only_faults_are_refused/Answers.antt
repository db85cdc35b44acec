use Rattle.cluster_session.proofs.OnlyFaults.{only_faults}
use Rattle.cluster_session.proofs.laws.only_faults_are_refused.Goals as goal

pub returns : goal.returns
returns c = only_faults
