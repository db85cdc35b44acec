use Rattle.cluster_calls.proofs.LogLaws.SentNoMore.{parts_own_slots}
use Rattle.cluster_calls.proofs.laws.parts_have_their_own_slots.Goals as goal

pub returns : goal.returns
returns c = parts_own_slots
