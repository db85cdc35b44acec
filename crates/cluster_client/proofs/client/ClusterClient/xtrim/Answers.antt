use Rattle.std.proofs.Common.{refl}
use Rattle.cluster_calls.specs.Calls.Answer.{Trimmed}
use Rattle.cluster_calls.specs.Calls.Call.{Xtrim}
use Rattle.cluster_client.proofs.client.ClusterClient.xtrim.Goals as goal

pub returns : goal.returns
returns g c = c.reply_as.ensures (Xtrim (g.K.ToSingleRedisArg.arg c.args.key) c.args.options.now) Trimmed (record { unrefused = refl; whole = refl; written = c.xtrim-cmd.ensures }) (λ tree. refl)
