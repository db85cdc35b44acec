use Rattle.std.proofs.Common.{refl}
use Rattle.cluster_calls.specs.Calls.Answer.{Range}
use Rattle.cluster_calls.specs.Calls.Call.{Xrange}
use Rattle.cluster_client.proofs.client.ClusterClient.xrange.Goals as goal

pub returns : goal.returns
returns g c = c.reply_as.ensures (Xrange (g.K.ToSingleRedisArg.arg c.args.key) (g.S.ToSingleRedisArg.arg c.args.start) (g.E.ToSingleRedisArg.arg c.args.end)) Range (record { unrefused = refl; whole = refl; written = c.xrange-cmd.ensures }) (λ tree. refl)
