use Rattle.std.proofs.Common.{sym}
use Rattle.cluster_routing.proofs.Lends.{contained}
use Rattle.strategies_for_tests.proofs.nth.replica_at.Goals as goal

pub returns-in-Some : goal.returns-in-Some
returns-in-Some c = contained c.args.replicas.now c.args.place _ (sym c.in-Some.ensures)

pub returns-in-None : goal.returns-in-None
returns-in-None c = contained c.args.replicas.now 0 _ c.first.ensures
