use Rattle.std.proofs.Common.{map, refl, ap}
use Rattle.std.proofs.lemmas.List.{map-id}
use Rattle.cluster_calls.specs.Calls.Answer.{Deleted}
use Rattle.cluster_calls.specs.Calls.Call.{XdelEx}
use Rattle.cluster_calls.specs.Links.Typed.{deletion_of}
use Rattle.cluster_client.proofs.Deletions.{codes_shown}
use Rattle.cluster_client.proofs.TypedCalls.{shown_so}
use Rattle.cluster_client.proofs.client.ClusterClient.xdel_ex.Goals as goal

pub returns : goal.returns
returns g c =
    shown_so _ _ _ _ _ _ _ (λ codes. ap (λ cs. Deleted (map deletion_of cs)) (map-id codes.items))
    (c.reply_as.ensures (XdelEx (g.K.ToSingleRedisArg.arg c.args.key) (map g.I.ToSingleRedisArg.arg c.args.ids.now) c.args.policy) (λ codes. Deleted (map deletion_of codes)) (record { unrefused = refl; whole = refl; written = c.xdel_ex-cmd.ensures }) codes_shown)
