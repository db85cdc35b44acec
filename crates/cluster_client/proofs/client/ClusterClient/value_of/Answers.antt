use Rattle.resp_core.specs.View.{view}
use Rattle.cluster_calls.specs.Links.World.{tree_result}
use Rattle.cluster_calls.proofs.LinkLaws.Unpicked.{answered_unpicked}
use Rattle.cluster_steps.proofs.Dispatched.{command_task}
use Rattle.cluster_client.specs.CommandCalls.{given_order}
use Rattle.cluster_client.proofs.Converting.{read_lacks, read_unpicked}
use Rattle.cluster_client.proofs.client.ClusterClient.value_of.Goals as goal

pub returns-clause-answered : goal.returns-clause-answered
returns-clause-answered g c = record { reply = tree_result view c.reply_to-reply.result; made = c.reply_to-reply.ensures; converted = c.value_in.ensures }

pub returns-clause-room : goal.returns-clause-room
returns-clause-room g c = read_lacks _ _ _ _ _ _ _ _ c.reply_to-reply.ensures.made c.value_in.ensures

pub returns-clause-unpicked : goal.returns-clause-unpicked
returns-clause-unpicked g c =
    let command = c.args.call.now.command.now in
    let order = given_order c.args.call.now in
    let number = c.args.call.now.number in
    read_unpicked _ _ _ _ _ _ _ _ c.reply_to-reply.ensures.made (answered_unpicked _ _ _ _ command number order (command_task command order number)) c.value_in.ensures
