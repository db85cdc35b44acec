use Rattle.cluster_calls.proofs.LogLaws.RefreshesOnce.{refresh_once}
use Rattle.cluster_calls.proofs.laws.refreshes_send_once.Goals as goal

pub returns : goal.returns
returns c = refresh_once
