use Rattle.std.proofs.Common.{◌≡◌, ◌++◌}
use Rattle.resp_args.proofs.Writings.{Writing}
use Rattle.resp_args.proofs.to_args.maps.IndexMapToRedisArgs.write_redis_args.Given as goal

abbrev pub invariant-loop-key : goal.invariant-loop-key
invariant-loop-key g l = Writing (λ e. g.K.ToRedisArgs.args e.0 ++ g.V.ToRedisArgs.args e.1) l.self.entries l.key-iterator (g.W.RedisWrite.written l.initial.out) (g.W.RedisWrite.written l.out) × (g.W.RedisWrite.beside l.out ≡ g.W.RedisWrite.beside l.initial.out)
