use Rattle.std.specs.Vec.Iter.{into_iter_items}
use Rattle.std.proofs.Common.{◌≡◌, ◌++◌, map}
use Rattle.resp_core.specs.View.{view}
use Rattle.cluster_calls.specs.Calls.Replies.{not_ignored}
use Rattle.cluster_client.proofs.pipeline.reply.not_ignored.Given as goal

abbrev pub invariant-replies : goal.invariant-replies
invariant-replies l = map view l.kept.items ++ not_ignored l.left (map view (into_iter_items l.reply-iterator)) ≡ not_ignored l.commands (map view l.fn.replies.items)
