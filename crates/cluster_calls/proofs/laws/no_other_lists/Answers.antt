use Rattle.cluster_calls.proofs.LogLaws.SentListsAre.{no_other_lists}
use Rattle.cluster_calls.proofs.laws.no_other_lists.Goals as goal

pub returns : goal.returns
returns c = no_other_lists
