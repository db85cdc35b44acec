use Rattle.std.proofs.Common.{◌≡◌, ◌++◌, option_map}
use Rattle.std.proofs.Common.{map as each}
use Rattle.std.specs.Vec.Iter.{into_iter_items}
use Rattle.resp_core.specs.View.{pair_view}
use Rattle.resp_args.specs.Convert.{traverse, one_pair}
use Rattle.resp_args.proofs.from.lists.each_pair.Given as goal

abbrev pub invariant-loop-pair : goal.invariant-loop-pair
invariant-loop-pair g l = traverse (λ p. g.T.FromRedisValue.convert (one_pair p)) (each pair_view l.fn.pairs.items) ≡ option_map (λ rest. each g.T.FromRedisValue.meaning l.list.items ++ rest) (traverse (λ p. g.T.FromRedisValue.convert (one_pair p)) (each pair_view (into_iter_items l.pair-iterator)))
