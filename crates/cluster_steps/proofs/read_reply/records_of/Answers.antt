use Rattle.std.proofs.Common.{map as each}
use Rattle.resp_core.specs.View.{view}
use Rattle.resp_args.proofs.Trees.{items-trees_of, view-Array}
use Rattle.cluster_steps.proofs.read_reply.records_of.Goals as goal

pub returns : goal.returns
returns c = rw (view-Array c.args.replies, items-trees_of (each view c.args.replies.items)) at c.from_redis_value.ensures
