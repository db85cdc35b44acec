use Rattle.std.proofs.Common.{refl}
use Rattle.cluster_calls.specs.Calls.Answer.{AutoClaim}
use Rattle.cluster_calls.specs.Calls.Call.{Xautoclaim}
use Rattle.cluster_client.proofs.client.ClusterClient.xautoclaim.Goals as goal

pub returns : goal.returns
returns g c = c.reply_as.ensures (Xautoclaim (record { key = g.K.ToSingleRedisArg.arg c.args.key; group = g.G.ToSingleRedisArg.arg c.args.group; consumer = g.C.ToSingleRedisArg.arg c.args.consumer; min_idle = c.args.min_idle }) (g.S.ToSingleRedisArg.arg c.args.start) c.args.options.now) AutoClaim (record { unrefused = refl; whole = refl; written = c.xautoclaim-cmd.ensures }) (λ tree. refl)
