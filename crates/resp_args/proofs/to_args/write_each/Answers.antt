use Rattle.std.proofs.Common.{rules}
use Rattle.resp_args.proofs.Writings.{Writes-each-refused}
use Rattle.resp_args.proofs.to_args.write_each.Goals as goal

pub returns-in_err-write_redis_args : goal.returns-in_err-write_redis_args
returns-in_err-write_redis_args g c =
    let part = Writes-each-refused g.T.ToRedisArgs.args c.args.items.now c.item-item.result c.loop-item.item-index c.loop-item-test.true c.item-item.is c.loop-item.invariant.0 c.in_err-write_redis_args.ensures.writes in
    search rules
