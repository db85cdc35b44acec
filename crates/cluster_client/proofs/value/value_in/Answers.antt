use Rattle.std.proofs.Common.{refl}
use Rattle.std.proofs.lemmas.Result.{err_from_is_err_and}
use Rattle.cluster_client.proofs.Converting.{unread_converts}
use Rattle.cluster_client.proofs.value.value_in.Goals as goal

pub returns-in_err-reply : goal.returns-in_err-reply
returns-in_err-reply g c =
    let p = err_from_is_err_and c.from_residual.result c.from_residual.ensures.1 in
    rw (p.1, p.2, c.in_err-reply.was) refl

pub returns-in_err-from_redis_value : goal.returns-in_err-from_redis_value
returns-in_err-from_redis_value g c =
    let p = err_from_is_err_and c.from_residual-in_err-from_redis_value.result c.from_residual-in_err-from_redis_value.ensures.1 in
    rw (p.1, p.2, c.in_ok-reply.was) (unread_converts g.T.FromRedisValue.meaning g.T.FromRedisValue.convert _ c.in_err-from_redis_value.field-0.0 c.in_err-from_redis_value.ensures)
