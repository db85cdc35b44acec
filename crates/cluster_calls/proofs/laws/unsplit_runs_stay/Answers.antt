use Rattle.std.proofs.Common.{◌++◌, map, ap}
use Rattle.cluster_calls.specs.OneServer.AmongOthers.{Other}
use Rattle.cluster_calls.proofs.ServerLaws.Unsplit.{stays}
use Rattle.cluster_calls.proofs.laws.unsplit_runs_stay.Goals as goal

pub returns : goal.returns
returns c = λ strategy client faults ts meaning keys keys' done calls last unsplit played honest one.
    ap (λ q. q ++ map Other last) (stays strategy faults meaning done ts client calls one.served unsplit played honest.requests one.each one.all)
