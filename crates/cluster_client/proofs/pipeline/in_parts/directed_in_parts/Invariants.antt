use Rattle.std.specs.List.{AllByRecursion}
use Rattle.std.proofs.Common.{drop, map}
use Rattle.cluster_client.specs.InParts.{IsDirected, entry_of}
use Rattle.cluster_client.proofs.InParts.{Added}
use Rattle.cluster_client.proofs.pipeline.in_parts.directed_in_parts.Given as goal

abbrev pub invariant-commands : goal.invariant-commands
invariant-commands l = Added (map entry_of l.commands) l.position (map entry_of (drop l.position l.commands)) l.all × AllByRecursion IsDirected (drop l.position l.commands)
