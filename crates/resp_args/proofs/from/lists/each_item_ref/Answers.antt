use Rattle.std.proofs.lemmas.Result.{err_from_is_err_and}
use Rattle.resp_core.specs.View.{view}
use Rattle.resp_args.proofs.Answering.{traverse-next, traverse-stopped}
use Rattle.resp_args.proofs.from.lists.each_item_ref.Goals as goal

pub loop-item-preserved : goal.loop-item-preserved
loop-item-preserved g c = traverse-next g.T.FromRedisValue.convert view g.T.FromRedisValue.meaning c.args.items.now c.loop-item.item-index c.item-item.result c.loop-item.list.items _ c.push.new.self.items c.loop-item-test.true c.item-item.is c.loop-item.invariant c.in_ok-from_redis_value_ref.ensures c.in_ok-push.ensures.items

pub returns-in_err-from_redis_value_ref : goal.returns-in_err-from_redis_value_ref
returns-in_err-from_redis_value_ref g c =
    let refused = err_from_is_err_and c.from_residual-in_err-from_redis_value_ref.result c.from_residual-in_err-from_redis_value_ref.ensures.1 in
    rw (refused.1, refused.2) (traverse-stopped g.T.FromRedisValue.convert view g.T.FromRedisValue.meaning c.args.items.now c.loop-item.item-index c.item-item.result _ c.loop-item-test.true c.item-item.is c.in_err-from_redis_value_ref.ensures)
