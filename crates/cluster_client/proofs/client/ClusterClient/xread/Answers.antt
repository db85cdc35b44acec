use Rattle.std.specs.Prelude.{cond}
use Rattle.std.proofs.Common.{◌≡◌, IfOk, refl, ap, subst}
use Rattle.resp_core.specs.Errors.{by_cause}
use Rattle.stream_commands.specs.Commands.{plain_command}
use Rattle.cluster_calls.specs.Calls.Answer.{Read}
use Rattle.cluster_calls.specs.Calls.Call.{Xread}
use Rattle.cluster_calls.specs.Calls.Task.{read_of, sentence_task}
use Rattle.cluster_calls.specs.Links.Typed.{streams_by}
use Rattle.cluster_steps.specs.Reads.{streams_in}
use Rattle.cluster_client.proofs.TypedCalls.{nothing_written, read_in_parts, read_sentence_by, refused_early}
use Rattle.cluster_client.proofs.client.ClusterClient.xread.Goals as goal

pub read_by_key-requires-clause-by_key : goal.read_by_key-requires-clause-by_key
read_by_key-requires-clause-by_key g c =
    let told = rw c.in-Ok-ByKey.field-0-is at c.in-Ok-ByKey.ensures in
    rw (c.deref.ensures.value, told.2) told.1

pub read_by_key-requires-clause-met : goal.read_by_key-requires-clause-met
read_by_key-requires-clause-met g c =
    let told = rw c.in-Ok-ByKey.field-0-is at c.in-Ok-ByKey.ensures in
    rw (c.deref.ensures.value, told.2) told.0

pub returns-in-Ok-ByKey : goal.returns-in-Ok-ByKey
returns-in-Ok-ByKey g c =
    let told = rw c.in-Ok-ByKey.field-0-is at c.in-Ok-ByKey.ensures in
    let same : streams_in c.deref.result.now ≡ streams_by g.K.ToSingleRedisArg.arg g.I.ToSingleRedisArg.arg c.args.streams.now = rw c.deref.ensures.value told.2 in
    let parts = told.1 in
    read_in_parts _ _ _ _ c.args.options.now _ _ parts (rw (← same) c.read_by_key.ensures)

pub returns-in-Ok-Whole : goal.returns-in-Ok-Whole
returns-in-Ok-Whole g c =
    let options = c.args.options.now in
    let streams = streams_by g.K.ToSingleRedisArg.arg g.I.ToSingleRedisArg.arg c.args.streams.now in
    let told = rw c.in-Ok-Whole.field-0-is at c.in-Ok-Whole.ensures in
    let whole = ap (λ b. cond b (read_of options streams) (sentence_task (Xread streams options))) told.1 in
    let written = subst (λ args. IfOk c.xread-cmd.result (λ k. k ≡ plain_command args)) (read_sentence_by g.K.ToSingleRedisArg.arg g.I.ToSingleRedisArg.arg c.args.streams.now options) c.xread-cmd.ensures in
    c.reply_as.ensures (Xread streams options) Read (record { unrefused = told.0; whole = whole; written = written }) (λ tree. refl)

pub returns-in-Ok-Refused : goal.returns-in-Ok-Refused
returns-in-Ok-Refused g c =
    let why = rw c.in-Ok-Refused.field-0-is at c.in-Ok-Refused.ensures in
    rw (c.refuse.ensures.same, c.from.ensures) (refused_early _ _ _ (Xread (streams_by g.K.ToSingleRedisArg.arg g.I.ToSingleRedisArg.arg c.args.streams.now) c.args.options.now) _ (by_cause c.in-Ok-Refused.cause) why c.refuse.ensures.stays)

pub returns-in-Err : goal.returns-in-Err
returns-in-Err g c =
    rw (c.refuse-in-Err.ensures.same, c.from-in-Err.ensures) (nothing_written _ _ _ (Xread (streams_by g.K.ToSingleRedisArg.arg g.I.ToSingleRedisArg.arg c.args.streams.now) c.args.options.now) _ c.refuse-in-Err.ensures.stays)
