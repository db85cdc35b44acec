use Rattle.std.proofs.Common.{◌≡◌, ◌++◌}
use Rattle.std.proofs.Common.{map as each}
use Rattle.std.specs.Vec.Iter.{into_iter_items}
use Rattle.stream_commands.specs.AutoClaim.{keep_present}
use Rattle.stream_commands.specs.InfoViews.{consumer_view, pairs_view}
use Rattle.stream_commands.specs.Pending.{pending_consumer}
use Rattle.stream_commands.proofs.records.pending.pending_consumers.Given as goal

abbrev pub invariant-loop-item : goal.invariant-loop-item
invariant-loop-item l = each consumer_view l.consumers.items ++ each pending_consumer (keep_present (pairs_view (into_iter_items l.item-iterator))) ≡ each pending_consumer (keep_present (pairs_view l.fn.parts.items))
