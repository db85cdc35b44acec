use Rattle.std.proofs.Common.{refl, ap, ◌∙◌, inl, inr, None, option_map, Ok, Err}
use Rattle.std.proofs.lemmas.Result.{err_from_is_err_and}
use Rattle.resp_core.specs.View.{view}
use Rattle.stream_commands.specs.Commands.{plain_command}
use Rattle.cluster_calls.specs.Calls.Task.{sentence}
use Rattle.cluster_calls.proofs.LinkLaws.Unpicked.{answered_unpicked}
use Rattle.cluster_client.proofs.Converting.{unread_converts}
use Rattle.cluster_client.proofs.TypedCalls.{converted, nothing_written, reads_unread, typed_made, unconverted}
use Rattle.cluster_client.proofs.client.ClusterClient.reply_as.Goals as goal

pub returns-in_err-reply-in-Ok : goal.returns-in_err-reply-in-Ok
returns-in_err-reply-in-Ok g c call shown goes reads =
    let p = err_from_is_err_and c.from_residual.result c.from_residual.ensures.1 in
    let made = rw (rw c.in-Ok.is at goes.written) at c.in_err-reply-in-Ok.ensures in
    rw (p.1, p.2) (record {
      made = typed_made _ _ _ call goes.unrefused goes.whole (Err c.in_err-reply-in-Ok.field-0.0) _ made.made (λ had. refl) made.made.unpicked (λ lacks. inl lacks);
      read = λ _ _. record { reply = Err c.in_err-reply-in-Ok.field-0.0; made = made; converted = refl };
    })

pub returns-in_err-from_redis_value-in-Ok : goal.returns-in_err-from_redis_value-in-Ok
returns-in_err-from_redis_value-in-Ok g c call shown goes reads =
    let p = err_from_is_err_and c.from_residual-in_err-from_redis_value-in-Ok.result c.from_residual-in_err-from_redis_value-in-Ok.ensures.1 in
    let made = rw (rw c.in-Ok.is at goes.written) at c.in_ok-reply-in-Ok.ensures in
    let tree = view c.in_ok-reply-in-Ok.reply in
    let e = c.in_err-from_redis_value-in-Ok.field-0.0 in
    rw (p.1, p.2) (record {
      made = typed_made _ _ _ call goes.unrefused goes.whole (Ok tree) _ made.made (unconverted g.T.FromRedisValue.meaning call g.T.FromRedisValue.convert shown tree e reads c.in_err-from_redis_value-in-Ok.ensures) (λ e. answered_unpicked _ _ _ _ (plain_command (sentence call)) 0 None refl _ made.made) (λ lacks. inr (λ k. cc k));
      read = λ _ _. record {
        reply = Ok tree;
        made = made;
        converted = reads_unread g.T.FromRedisValue.meaning call g.T.FromRedisValue.convert shown tree e reads (unread_converts g.T.FromRedisValue.meaning g.T.FromRedisValue.convert tree e c.in_err-from_redis_value-in-Ok.ensures);
      };
    })

pub returns-in_ok-from_redis_value-in-Ok : goal.returns-in_ok-from_redis_value-in-Ok
returns-in_ok-from_redis_value-in-Ok g c call shown goes reads =
    let made = rw (rw c.in-Ok.is at goes.written) at c.in_ok-reply-in-Ok.ensures in
    let tree = view c.in_ok-reply-in-Ok.reply in
    record {
      made = typed_made _ _ _ call goes.unrefused goes.whole (Ok tree) _ made.made (λ had. converted call g.T.FromRedisValue.convert shown tree _ reads c.in_ok-from_redis_value-in-Ok.ensures) (λ e. cc e) (λ e. cc e);
      read = λ _ _. record { reply = Ok tree; made = made; converted = reads tree ∙ ap (option_map shown) c.in_ok-from_redis_value-in-Ok.ensures };
    }

pub returns-in-Err : goal.returns-in-Err
returns-in-Err g c call shown goes reads =
    rw (c.refuse.ensures.same, c.from.ensures) (nothing_written _ _ _ call _ c.refuse.ensures.stays)
