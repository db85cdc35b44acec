use Rattle.std.proofs.Common.{◌≡◌, ◌++◌, option_map}
use Rattle.std.proofs.Common.{map as each}
use Rattle.std.specs.List.{flat_map}
use Rattle.std.specs.Vec.Iter.{into_iter_items}
use Rattle.resp_core.specs.View.{view}
use Rattle.resp_args.specs.Convert.{traverse}
use Rattle.stream_commands.specs.Entries.{ids_with_fields, without_times}
use Rattle.stream_commands.specs.RecordViews.{entries_view}
use Rattle.stream_commands.proofs.records.entries.each_entry.Given as goal

abbrev pub invariant-loop-item : goal.invariant-loop-item
invariant-loop-item l = option_map (flat_map (each without_times)) (traverse ids_with_fields (each view l.fn.items.items)) ≡ option_map (λ rest. entries_view l.ids.items ++ flat_map (each without_times) rest) (traverse ids_with_fields (each view (into_iter_items l.item-iterator)))
