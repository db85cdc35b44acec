use Rattle.std.proofs.Common.{None, refl}
use Rattle.resp_core.specs.View.{view}
use Rattle.cluster_calls.specs.Links.World.{tree_result}
use Rattle.cluster_client.proofs.Converting.{read_lacks, read_unpicked}
use Rattle.cluster_client.proofs.pipeline.ClusterPipeline.query.Goals as goal

pub returns-clause-happened : goal.returns-clause-happened
returns-clause-happened g c strategy = (rw c.commands.ensures at (c.reply_to_pipeline-reply.ensures strategy)).happened

pub returns-clause-answered : goal.returns-clause-answered
returns-clause-answered g c strategy = record {
  reply = tree_result view c.reply_to_pipeline-reply.result;
  made = record { made = rw c.commands.ensures at (c.reply_to_pipeline-reply.ensures strategy); missing = λ lacks place. refl };
  converted = c.value_in.ensures;
}

pub returns-clause-room : goal.returns-clause-room
returns-clause-room g c lacks some strategy = read_lacks _ _ _ _ _ _ _ _ (rw c.commands.ensures at (c.reply_to_pipeline-reply.ensures strategy)) c.value_in.ensures lacks some

pub returns-clause-unpicked : goal.returns-clause-unpicked
returns-clause-unpicked g c = read_unpicked _ _ None _ _ _ _ _ (rw c.commands.ensures at (c.reply_to_pipeline-reply.ensures None)) (λ a m none. (m.answered (λ k. cc k)).picks) c.value_in.ensures
