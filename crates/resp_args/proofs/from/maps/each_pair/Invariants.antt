use Rattle.std.proofs.Common.{◌≡◌, ◌++◌, option_map}
use Rattle.std.proofs.Common.{map as each}
use Rattle.resp_core.specs.MapIters.{owned_left}
use Rattle.resp_args.specs.Convert.{traverse, part_by_part}
use Rattle.resp_args.proofs.from.maps.each_pair.Given as goal

abbrev pub invariant-loop-pair : goal.invariant-loop-pair
invariant-loop-pair g l = traverse (part_by_part g.K.FromRedisValue.convert g.V.FromRedisValue.convert) (owned_left l.fn.pairs) ≡ option_map (λ rest. each (λ e. (g.K.FromRedisValue.meaning e.0, g.V.FromRedisValue.meaning e.1)) l.list.items ++ rest) (traverse (part_by_part g.K.FromRedisValue.convert g.V.FromRedisValue.convert) (owned_left l.pair-iterator))
