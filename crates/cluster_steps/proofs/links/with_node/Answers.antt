use Rattle.std.proofs.Common.{◌∙◌, ap}
use Rattle.indexmap.specs.IndexSet.{insert_key}
use Rattle.cluster_routing.specs.Address.{same_address}
use Rattle.cluster_routing.specs.Seen.{addresses}
use Rattle.cluster_steps.proofs.KnownLinks.{put}
use Rattle.cluster_steps.proofs.links.with_node.Goals as goal

pub returns : goal.returns
returns c = ap addresses c.in_ok-insert.ensures.keys ∙ put c.args.table.keys c.in_ok-clone.field-0 ∙ ap (insert_key same_address (addresses c.args.table.keys)) c.in_ok-clone.ensures
