use Rattle.std.proofs.Common.{ap}
use Rattle.std.proofs.Common.{map as each}
use Rattle.std.proofs.lemmas.Result.{err_from_is_err_and}
use Rattle.std.specs.Vec.Iter.{into_iter_items}
use Rattle.resp_core.specs.View.{view}
use Rattle.stream_commands.specs.Entries.{ids_with_fields}
use Rattle.stream_commands.specs.RecordViews.{entries_view}
use Rattle.stream_commands.specs.declared.records.entries.Entries.{Entries}
use Rattle.stream_commands.proofs.EntryLists.{entries-next, entries-stopped}
use Rattle.stream_commands.proofs.records.entries.each_entry.Goals as goal

pub loop-item-preserved : goal.loop-item-preserved
loop-item-preserved c = entries-next ids_with_fields _ (each view (into_iter_items c.loop-item.item-iterator)) (view c.in-Some.item) (each view (into_iter_items c.next.new.self)) (entries_view c.loop-item.ids.items) _ c.loop-item.invariant (ap (each view) c.in-Some.ensures.steps.0) c.in_ok-read_entry.ensures

pub returns-in_err-read_entry : goal.returns-in_err-read_entry
returns-in_err-read_entry c =
    let refused = err_from_is_err_and c.from_residual.result c.from_residual.ensures.1 in
    rw (refused.1, refused.2) (entries-stopped {S = Entries} ids_with_fields (λ e. entries_view e.ids.items) _ (each view (into_iter_items c.loop-item.item-iterator)) (view c.in-Some.item) (each view (into_iter_items c.next.new.self)) (entries_view c.loop-item.ids.items) _ c.loop-item.invariant (ap (each view) c.in-Some.ensures.steps.0) c.in_err-read_entry.ensures)
