use Rattle.cluster_calls.proofs.LinkLaws.ClosedNodes.{closed_links}
use Rattle.cluster_calls.proofs.laws.closed_links_change_nothing.Goals as goal

pub returns : goal.returns
returns c = closed_links
