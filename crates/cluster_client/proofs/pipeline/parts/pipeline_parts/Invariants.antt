use Rattle.std.proofs.Common.{◌≡◌, map, drop}
use Rattle.cluster_calls.specs.Calls.Parts.{pipeline_parts}
use Rattle.cluster_steps.specs.FirstPlaces.{part_of}
use Rattle.cluster_client.proofs.PipeParts.{before}
use Rattle.cluster_client.proofs.pipeline.parts.pipeline_parts.Given as goal

abbrev pub invariant-commands : goal.invariant-commands
invariant-commands l = before (map part_of l.parts.items) (pipeline_parts l.position (drop l.position l.commands)) ≡ pipeline_parts 0 l.commands
