use Rattle.std.proofs.Common.{refl}
use Rattle.cluster_calls.specs.Calls.Answer.{Groups}
use Rattle.cluster_calls.specs.Calls.Call.{XinfoGroups}
use Rattle.cluster_client.proofs.client.ClusterClient.xinfo_groups.Goals as goal

pub returns : goal.returns
returns g c = c.reply_as.ensures (XinfoGroups (g.K.ToSingleRedisArg.arg c.args.key)) Groups (record { unrefused = refl; whole = refl; written = c.xinfo_groups-cmd.ensures }) (λ tree. refl)
