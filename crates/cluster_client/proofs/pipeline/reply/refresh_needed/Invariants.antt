use Rattle.std.specs.Prelude.{◌||◌}
use Rattle.std.specs.List.{list_any}
use Rattle.std.proofs.Common.{◌≡◌, drop, map}
use Rattle.resp_core.specs.View.{view}
use Rattle.cluster_steps.specs.GroupRuns.{is_moved_tree}
use Rattle.cluster_client.proofs.pipeline.reply.refresh_needed.Given as goal

abbrev pub invariant-replies : goal.invariant-replies
invariant-replies l = (l.needed || list_any is_moved_tree (map view (drop l.reply-index l.replies))) ≡ (l.flag || list_any is_moved_tree (map view l.replies))
