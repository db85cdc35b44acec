use Rattle.cluster_calls.proofs.LogLaws.MadeBounds.{call_bounded}
use Rattle.cluster_calls.proofs.laws.calls_are_bounded.Goals as goal

pub returns : goal.returns
returns c = λ strategy old new call answer made. call_bounded strategy old new call answer made
