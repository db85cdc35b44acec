use Rattle.std.proofs.Common.{map as each}
use Rattle.resp_core.specs.View.{view}
use Rattle.resp_args.proofs.Trees.{items-trees_of, view-Array, view-Set}
use Rattle.resp_args.proofs.from.lists.VecFromRedisValue.from_redis_value_ref.Goals as goal

pub returns-in-Array : goal.returns-in-Array
returns-in-Array g c = rw (← c.plain.ensures, c.in-Array.is, view-Array c.in-Array.items, items-trees_of (each view c.in-Array.items.items), ← c.as_slice.ensures.value) c.each_item_ref.ensures

pub returns-in-Set : goal.returns-in-Set
returns-in-Set g c = rw (← c.plain.ensures, c.in-Set.is, view-Set c.in-Set.items, items-trees_of (each view c.in-Set.items.items), ← c.as_slice-in-Set.ensures.value) c.each_item_ref-in-Set.ensures
