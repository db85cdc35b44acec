use Rattle.std.proofs.Common.{◌≡◌, ◌++◌, option_map}
use Rattle.std.proofs.Common.{map as each}
use Rattle.std.specs.Vec.Iter.{into_iter_items}
use Rattle.resp_core.specs.View.{view}
use Rattle.resp_args.specs.Convert.{traverse}
use Rattle.stream_commands.specs.InfoViews.{pending_id_view}
use Rattle.stream_commands.specs.PendingCount.{pending_row}
use Rattle.stream_commands.proofs.records.pending_count.pending_ids.Given as goal

abbrev pub invariant-loop-row : goal.invariant-loop-row
invariant-loop-row l = traverse pending_row (each view l.fn.rows.items) ≡ option_map (λ rest. each pending_id_view l.ids.items ++ rest) (traverse pending_row (each view (into_iter_items l.row-iterator)))
