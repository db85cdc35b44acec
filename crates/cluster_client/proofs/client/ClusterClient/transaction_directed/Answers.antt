use Rattle.resp_core.specs.View.{view}
use Rattle.cluster_calls.specs.Links.World.{tree_result}
use Rattle.cluster_client.proofs.Converting.{read_lacks}
use Rattle.cluster_client.proofs.client.ClusterClient.transaction_directed.Goals as goal

pub returns-clause-answered : goal.returns-clause-answered
returns-clause-answered g c = record { reply = tree_result view c.reply_to_transaction-reply.result; made = c.reply_to_transaction-reply.ensures.made; converted = c.value_in.ensures }

pub returns-clause-room : goal.returns-clause-room
returns-clause-room g c = read_lacks _ _ _ _ _ _ _ _ c.reply_to_transaction-reply.ensures.made.made c.value_in.ensures
