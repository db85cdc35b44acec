use Rattle.resp_link.proofs.Promised.{faults_have_a_cause}
use Rattle.resp_link.proofs.laws.faults_have_a_cause.Goals as goal

pub returns : goal.returns
returns c = faults_have_a_cause
