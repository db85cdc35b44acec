use Rattle.std.specs.Vec.Iter.{into_iter_items}
use Rattle.std.proofs.Common.{map as each}
use Rattle.stream_commands.proofs.GatherSteps.{Joining}
use Rattle.stream_commands.specs.Join.{lent_keys}
use Rattle.stream_commands.specs.Joining.{positions}
use Rattle.stream_commands.specs.RecordViews.{rows_view}
use Rattle.stream_commands.proofs.join.join_read_replies.Given as goal

abbrev pub invariant-replies : goal.invariant-replies
invariant-replies l = Joining (lent_keys l.keys) (positions l.parts) (each (λ r. rows_view r.keys.items) l.fn.replies.items) (positions l.rest) (each (λ r. rows_view r.keys.items) (into_iter_items l.reply-iterator)) l.table.items
