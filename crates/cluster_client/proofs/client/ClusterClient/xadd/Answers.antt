use Rattle.std.proofs.Common.{refl}
use Rattle.cluster_calls.specs.Calls.Answer.{Added}
use Rattle.cluster_calls.specs.Calls.Call.{Xadd}
use Rattle.cluster_client.specs.Streams.{fields_by}
use Rattle.cluster_client.proofs.client.ClusterClient.xadd.Goals as goal

pub returns : goal.returns
returns g c = c.reply_as.ensures (Xadd (g.K.ToSingleRedisArg.arg c.args.key) c.args.options.now (g.I.ToSingleRedisArg.arg c.args.id) (fields_by g.F.ToSingleRedisArg.arg g.V.ToSingleRedisArg.arg c.args.fields.now)) Added (record { unrefused = refl; whole = refl; written = c.xadd-cmd.ensures }) (λ tree. refl)
