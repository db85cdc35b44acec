use Rattle.cluster_client.proofs.client.ClusterClient.outcomes_of_pipeline.Goals as goal

pub outcomes_if_cut-requires : goal.outcomes_if_cut-requires
outcomes_if_cut-requires g c = (c.args.commands.now, c.commands_in_parts-all.ensures)

pub returns : goal.returns
returns g c strategy = c.outcomes_if_cut.ensures strategy c.args.commands.now c.commands_in_parts-all.ensures
