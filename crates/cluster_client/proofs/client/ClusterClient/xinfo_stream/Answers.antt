use Rattle.std.proofs.Common.{refl}
use Rattle.cluster_calls.specs.Calls.Answer.{Stream}
use Rattle.cluster_calls.specs.Calls.Call.{XinfoStream}
use Rattle.cluster_client.proofs.client.ClusterClient.xinfo_stream.Goals as goal

pub returns : goal.returns
returns g c = c.reply_as.ensures (XinfoStream (g.K.ToSingleRedisArg.arg c.args.key)) Stream (record { unrefused = refl; whole = refl; written = c.xinfo_stream-cmd.ensures }) (λ tree. refl)
