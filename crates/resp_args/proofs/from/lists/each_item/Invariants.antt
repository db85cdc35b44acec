use Rattle.std.proofs.Common.{◌≡◌, ◌++◌, option_map}
use Rattle.std.proofs.Common.{map as each}
use Rattle.std.specs.Vec.Iter.{into_iter_items}
use Rattle.resp_core.specs.View.{view}
use Rattle.resp_args.specs.Convert.{traverse}
use Rattle.resp_args.proofs.from.lists.each_item.Given as goal

abbrev pub invariant-loop-item : goal.invariant-loop-item
invariant-loop-item g l = traverse g.T.FromRedisValue.convert (each view l.fn.items.items) ≡ option_map (λ rest. each g.T.FromRedisValue.meaning l.list.items ++ rest) (traverse g.T.FromRedisValue.convert (each view (into_iter_items l.item-iterator)))
