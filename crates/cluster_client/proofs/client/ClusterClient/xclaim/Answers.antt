use Rattle.std.proofs.Common.{map, refl, sym, ap, ◌∙◌}
use Rattle.resp_core.specs.Errors.{by_cause}
use Rattle.resp_core.specs.declared.errors.redis_error.Cause.TheVariants.{ClaimsIdsAlone}
use Rattle.cluster_calls.specs.Calls.Answer.{Claim}
use Rattle.cluster_calls.specs.Calls.Call.{Claimant, Xclaim}
use Rattle.cluster_calls.specs.Calls.Task.{refuse_if}
use Rattle.cluster_client.proofs.TypedCalls.{refused_early}
use Rattle.cluster_client.proofs.client.ClusterClient.xclaim.Goals as goal

pub returns-then-justid : goal.returns-then-justid
returns-then-justid g c =
    let claimant : Claimant = record { key = g.K.ToSingleRedisArg.arg c.args.key; group = g.G.ToSingleRedisArg.arg c.args.group; consumer = g.C.ToSingleRedisArg.arg c.args.consumer; min_idle = c.args.min_idle } in
    let why = ap (λ b. refuse_if b ClaimsIdsAlone) (sym c.justid.ensures ∙ c.if-justid.true) in
    rw (c.refuse.ensures.same, c.from.ensures) (refused_early _ _ _ (Xclaim claimant (map g.I.ToSingleRedisArg.arg c.args.ids.now) c.args.options.now) _ (by_cause ClaimsIdsAlone) why c.refuse.ensures.stays)

pub returns : goal.returns
returns g c =
    let claimant : Claimant = record { key = g.K.ToSingleRedisArg.arg c.args.key; group = g.G.ToSingleRedisArg.arg c.args.group; consumer = g.C.ToSingleRedisArg.arg c.args.consumer; min_idle = c.args.min_idle } in
    let fits = ap (λ b. refuse_if b ClaimsIdsAlone) (sym c.justid.ensures ∙ c.if-justid.false) in
    c.reply_as.ensures (Xclaim claimant (map g.I.ToSingleRedisArg.arg c.args.ids.now) c.args.options.now) Claim (record { unrefused = fits; whole = refl; written = c.xclaim-cmd.ensures }) (λ tree. refl)
