use Rattle.std.proofs.Common.{map}
use Rattle.cluster_client.specs.InParts.{entry_of}
use Rattle.cluster_client.proofs.client.ClusterClient.query_each_directed.Goals as goal

pub outcomes_if_cut-requires : goal.outcomes_if_cut-requires
outcomes_if_cut-requires g c = (map entry_of c.args.commands.now, c.directed_in_parts-all.ensures)

pub returns : goal.returns
returns g c strategy = c.outcomes_if_cut.ensures strategy (map entry_of c.args.commands.now) c.directed_in_parts-all.ensures
