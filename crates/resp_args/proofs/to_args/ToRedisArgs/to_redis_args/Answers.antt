use Rattle.resp_args.proofs.Writings.{Writes-vec}
use Rattle.resp_args.proofs.to_args.ToRedisArgs.to_redis_args.Goals as goal

pub returns : goal.returns
returns g c = Writes-vec _ _ _ c.new-out.ensures.items c.in_ok-write_redis_args.ensures.writes
