use Rattle.std.proofs.Common.{◌≡◌, Some, take}
use Rattle.std.proofs.Common.{map as each}
use Rattle.resp_core.specs.View.{view}
use Rattle.resp_args.specs.Convert.{traverse}
use Rattle.resp_args.proofs.from.lists.each_item_ref.Given as goal

abbrev pub invariant-loop-item : goal.invariant-loop-item
invariant-loop-item g l = traverse g.T.FromRedisValue.convert (each view (take l.item-index l.items)) ≡ Some (each g.T.FromRedisValue.meaning l.list.items)
