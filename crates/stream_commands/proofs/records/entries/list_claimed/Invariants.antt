use Rattle.std.proofs.Common.{◌≡◌, ◌++◌}
use Rattle.std.proofs.Common.{map as each}
use Rattle.std.specs.Vec.Iter.{into_iter_items}
use Rattle.stream_commands.specs.RecordViews.{entries_view, entry_of_parts}
use Rattle.stream_commands.proofs.records.entries.list_claimed.Given as goal

abbrev pub invariant-loop-entry : goal.invariant-loop-entry
invariant-loop-entry l = entries_view l.ids.items ++ each entry_of_parts (into_iter_items l.entry-iterator) ≡ each entry_of_parts l.fn.claimed.items
