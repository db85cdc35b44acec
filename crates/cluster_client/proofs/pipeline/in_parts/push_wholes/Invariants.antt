use Rattle.std.specs.Prelude.{replicate}
use Rattle.std.proofs.Common.{◌≡◌, ◌++◌, None}
use Rattle.cluster_client.specs.InParts.{AreReady, shown_joins}
use Rattle.cluster_client.proofs.pipeline.in_parts.push_wholes.Given as goal

abbrev pub invariant-wholes : goal.invariant-wholes
invariant-wholes l = (shown_joins l.joins.items ≡ shown_joins l.fn.joins.items ++ replicate l.counter None) × (AreReady l.fn.joins.items → AreReady l.joins.items)
