use Rattle.std.proofs.Common.{List, refl, subst}
use Rattle.std.specs.Prelude.{Contains}
use Rattle.cluster_routing.specs.Address.{Address}
use Rattle.cluster_routing.specs.Seen.{address}
use Rattle.cluster_routing.proofs.Lends.{contained_behind, among}
use Rattle.strategies_for_tests.proofs.nth.NthReadRoutingStrategy.route_read.Goals as goal

pub returns-in-AnyNode : goal.returns-in-AnyNode
returns-in-AnyNode c =
    let there = subst (λ (xs : List Address). Contains xs (address c.replica_at.result.now)) c.replicas.ensures c.replica_at.ensures in
    record { admitted = refl; candidate = among _ _ _ c.in-AnyNode.is (contained_behind _ _ _ there) }

pub returns-in-ReplicasOnly : goal.returns-in-ReplicasOnly
returns-in-ReplicasOnly c =
    let there = subst (λ (xs : List Address). Contains xs (address c.replica_at-in-ReplicasOnly.result.now)) c.replicas-in-ReplicasOnly.ensures c.replica_at-in-ReplicasOnly.ensures in
    record { admitted = refl; candidate = among _ _ _ c.in-ReplicasOnly.is there }
