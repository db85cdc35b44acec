use Rattle.std.proofs.Common.{refl}
use Rattle.cluster_calls.specs.Calls.Answer.{Consumers}
use Rattle.cluster_calls.specs.Calls.Call.{XinfoConsumers}
use Rattle.cluster_client.proofs.client.ClusterClient.xinfo_consumers.Goals as goal

pub returns : goal.returns
returns g c = c.reply_as.ensures (XinfoConsumers (g.K.ToSingleRedisArg.arg c.args.key) (g.G.ToSingleRedisArg.arg c.args.group)) Consumers (record { unrefused = refl; whole = refl; written = c.xinfo_consumers-cmd.ensures }) (λ tree. refl)
