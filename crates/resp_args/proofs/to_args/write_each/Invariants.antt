use Rattle.std.proofs.Common.{◌≡◌, flat_map, take}
use Rattle.resp_args.specs.Writing.{Grows}
use Rattle.resp_args.proofs.to_args.write_each.Given as goal

abbrev pub invariant-loop-item : goal.invariant-loop-item
invariant-loop-item g l = Grows (g.W.RedisWrite.written l.initial.out) (flat_map g.T.ToRedisArgs.args (take l.item-index l.items)) (g.W.RedisWrite.written l.out) × (g.W.RedisWrite.beside l.out ≡ g.W.RedisWrite.beside l.initial.out)
