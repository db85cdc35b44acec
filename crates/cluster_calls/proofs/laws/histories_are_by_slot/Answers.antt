use Rattle.cluster_calls.proofs.ServerLaws.Histories.{history_leads, leads_history}
use Rattle.cluster_calls.proofs.laws.histories_are_by_slot.Goals as goal

pub returns : goal.returns
returns c = λ keys keys' steps. (history_leads steps keys keys', leads_history steps keys keys')
