use Rattle.std.proofs.Common.{◌≡◌, ◌++◌, string_bytes, option_map}
use Rattle.std.proofs.Common.{map as each}
use Rattle.std.specs.Vec.Iter.{into_iter_items}
use Rattle.stream_commands.specs.AutoClaim.{id_alone, keep_present}
use Rattle.stream_commands.specs.RecordViews.{entries_view}
use Rattle.stream_commands.proofs.records.autoclaim.ids_without_fields.Given as goal

abbrev pub invariant-loop-item : goal.invariant-loop-item
invariant-loop-item l = entries_view l.ids.items ++ each id_alone (keep_present (each (λ o. option_map string_bytes o) (into_iter_items l.item-iterator))) ≡ each id_alone (keep_present (each (λ o. option_map string_bytes o) l.fn.optional_ids.items))
