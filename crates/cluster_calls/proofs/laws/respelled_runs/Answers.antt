use Rattle.cluster_calls.specs.Links.Log.{replies}
use Rattle.cluster_calls.proofs.LogLaws.RespelledRuns.{runs_alike}
use Rattle.cluster_calls.proofs.laws.respelled_runs.Goals as goal

pub returns : goal.returns
returns c = λ strategy strategy' client faults faults' taken taken' ts us calls picks left right said. runs_alike strategy strategy' client faults faults' (replies taken) (replies taken') 0 ts us calls picks left right said
