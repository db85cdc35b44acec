use Rattle.std.proofs.Common.{◌≡◌, drop}
use Rattle.cluster_servers.specs.Asked.{some_redirected}
use Rattle.cluster_servers.proofs.together.some_redirected.Given as goal

abbrev pub invariant-outcomes : goal.invariant-outcomes
invariant-outcomes l = some_redirected (drop l.outcome-index l.outcomes) ≡ some_redirected l.outcomes
