use Rattle.std.specs.List.{AllByRecursion}
use Rattle.std.proofs.Common.{◌≡◌, ◌++◌, drop, map}
use Rattle.cluster_client.specs.InParts.{IsDirected, entry_of}
use Rattle.proxy_core.specs.Batch.{batch_of}
use Rattle.cluster_servers.specs.Together.{entries_of}
use Rattle.cluster_servers.proofs.together.directed_of.Given as goal

abbrev pub invariant-batch : goal.invariant-batch
invariant-batch l = (map entry_of l.all.items ++ entries_of (batch_of (drop l.asked-index l.batch)) ≡ entries_of (batch_of l.batch)) × AllByRecursion IsDirected l.all.items
