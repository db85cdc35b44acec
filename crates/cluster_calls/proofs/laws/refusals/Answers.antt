use Rattle.cluster_calls.proofs.ServerLaws.Runs.{run_refused}
use Rattle.cluster_calls.proofs.laws.refusals.Goals as goal

pub returns : goal.returns
returns c = λ strategy client faults ts played. run_refused strategy faults ts client played
