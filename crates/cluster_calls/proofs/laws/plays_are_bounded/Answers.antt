use Rattle.cluster_calls.proofs.LogLaws.MadeBounds.{run_bounded}
use Rattle.cluster_calls.proofs.laws.plays_are_bounded.Goals as goal

pub returns : goal.returns
returns c = λ strategy old new calls before after all p. run_bounded strategy old new p.run p.is_run.events p.is_run.calls
