use Rattle.std.proofs.Common.{◌≡◌, ◌++◌}
use Rattle.std.proofs.Common.{map as each}
use Rattle.std.specs.Vec.Iter.{into_iter_items}
use Rattle.stream_commands.proofs.records.named.records_of.Given as goal

abbrev pub invariant-loop-item : goal.invariant-loop-item
invariant-loop-item g l = each g.T.FromFields.stands l.list.items ++ each (λ r. g.T.FromFields.stands r.record) (into_iter_items l.item-iterator) ≡ each (λ r. g.T.FromFields.stands r.record) l.fn.told.items
