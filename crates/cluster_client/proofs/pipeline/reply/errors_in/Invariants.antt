use Rattle.std.proofs.Common.{◌≡◌, ◌++◌, drop, map}
use Rattle.resp_core.specs.Refused.{errors_at}
use Rattle.resp_core.specs.View.{view}
use Rattle.cluster_calls.specs.Links.PipeReplies.{errors_in}
use Rattle.cluster_client.proofs.pipeline.reply.errors_in.Given as goal

abbrev pub invariant-replies : goal.invariant-replies
invariant-replies l = errors_at l.errors.items ++ errors_in l.position (map view (drop l.position l.replies)) ≡ errors_in 0 (map view l.replies)
