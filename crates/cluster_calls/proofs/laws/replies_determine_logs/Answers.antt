use Rattle.cluster_calls.proofs.LogLaws.SameLogs.{replies_determine_logs}
use Rattle.cluster_calls.proofs.laws.replies_determine_logs.Goals as goal

pub returns : goal.returns
returns c = replies_determine_logs
