use Rattle.std.proofs.Common.{drop}
use Rattle.cluster_client.proofs.InParts.{Added}
use Rattle.cluster_client.proofs.pipeline.in_parts.commands_in_parts.Given as goal

abbrev pub invariant-commands : goal.invariant-commands
invariant-commands l = Added l.commands l.position (drop l.position l.commands) l.all
