use Rattle.cluster_calls.proofs.LogLaws.EachInParts.{parts_go_whole}
use Rattle.cluster_calls.proofs.laws.parts_go_whole.Goals as goal

pub returns : goal.returns
returns c = parts_go_whole
