use Rattle.std.proofs.Common.{◌≡◌, ◌++◌, [], string_eq}
use Rattle.std.specs.Vec.Iter.{into_iter_items}
use Rattle.indexmap.specs.IndexMap.{insert_all}
use Rattle.stream_commands.proofs.records.fields.collect.Given as goal

abbrev pub invariant-loop-pair : goal.invariant-loop-pair
invariant-loop-pair l = (l.fn.pairs.items ≡ l.yielded ++ into_iter_items l.pair-iterator) × (l.fields.entries ≡ insert_all string_eq [] l.yielded)
