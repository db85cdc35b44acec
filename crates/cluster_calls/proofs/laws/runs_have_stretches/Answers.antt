use Rattle.cluster_calls.proofs.LinkLaws.Stretched.{stretches}
use Rattle.cluster_calls.proofs.laws.runs_have_stretches.Goals as goal

pub returns : goal.returns
returns c = stretches
