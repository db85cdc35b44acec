use Rattle.cluster_calls.specs.Links.Happened.{client_of}
use Rattle.cluster_calls.specs.OneServer.Played.{replied}
use Rattle.cluster_calls.proofs.LogLaws.RefusedAsKind.{calls_refused}
use Rattle.cluster_calls.proofs.ServerLaws.Runs.{run_refused}
use Rattle.cluster_calls.proofs.laws.plays_are_refused.Goals as goal

pub returns : goal.returns
returns c = λ strategy old new calls before after all p. (
  calls_refused strategy old new p.run p.is_run.events p.is_run.calls,
  λ had. let r = p.is_run.played had in run_refused strategy r.faults (replied p) (client_of old) r.played,
)
