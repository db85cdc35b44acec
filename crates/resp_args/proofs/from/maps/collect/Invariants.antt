use Rattle.std.proofs.Common.{◌≡◌, ◌++◌, []}
use Rattle.std.specs.Vec.Iter.{into_iter_items}
use Rattle.indexmap.specs.IndexMap.{insert_all}
use Rattle.resp_args.proofs.from.maps.collect.Given as goal

abbrev pub invariant-loop-pair : goal.invariant-loop-pair
invariant-loop-pair g l = (l.fn.pairs.items ≡ l.yielded ++ into_iter_items l.pair-iterator) × (l.map.entries ≡ insert_all g.K.PartialEq.eq [] l.yielded)
