use Rattle.std.proofs.Common.{map as each}
use Rattle.resp_core.specs.View.{view}
use Rattle.resp_core.specs.View.{pair_view}
use Rattle.resp_args.proofs.Trees.{items-trees_of, pair_list-pairs_of, view-Array, view-Set, view-Map}
use Rattle.resp_args.proofs.from.lists.VecFromRedisValue.from_redis_value.Goals as goal

pub returns-in-Array : goal.returns-in-Array
returns-in-Array g c = rw (← c.in-Array.ensures, view-Array c.in-Array.items, items-trees_of (each view c.in-Array.items.items)) c.each_item.ensures

pub returns-in-Map : goal.returns-in-Map
returns-in-Map g c = rw (← c.in-Map.ensures, view-Map c.in-Map.pairs, pair_list-pairs_of (each pair_view c.in-Map.pairs.items)) c.each_pair.ensures

pub returns-in-Set : goal.returns-in-Set
returns-in-Set g c = rw (← c.in-Set.ensures, view-Set c.in-Set.items, items-trees_of (each view c.in-Set.items.items)) c.each_item-in-Set.ensures
