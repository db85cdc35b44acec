use Rattle.std.proofs.Common.{◌≡◌, drop}
use Rattle.std.specs.Prelude.{bytes_eq}
use Rattle.cluster_routing.specs.Info.{lent}
use Rattle.cluster_routing.specs.Lists.{is_distinct}
use Rattle.cluster_steps.proofs.DistinctKeys.{are_new}
use Rattle.cluster_steps.proofs.read_checks.are_distinct.Given as goal

abbrev pub invariant-keys : goal.invariant-keys
invariant-keys l = is_distinct bytes_eq (lent l.keys) ≡ are_new bytes_eq (lent l.seen.keys) (lent (drop l.key-index l.keys))
