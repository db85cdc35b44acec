use Rattle.std.proofs.Common.{refl}
use Rattle.cluster_calls.specs.Calls.Answer.{Pending}
use Rattle.cluster_calls.specs.Calls.Call.{Xpending}
use Rattle.cluster_client.proofs.client.ClusterClient.xpending.Goals as goal

pub returns : goal.returns
returns g c = c.reply_as.ensures (Xpending (g.K.ToSingleRedisArg.arg c.args.key) (g.G.ToSingleRedisArg.arg c.args.group)) Pending (record { unrefused = refl; whole = refl; written = c.xpending-cmd.ensures }) (λ tree. refl)
