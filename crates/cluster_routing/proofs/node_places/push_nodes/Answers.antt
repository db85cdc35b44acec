use Rattle.std.proofs.Common.{◌∷◌, ◌∙◌, ℕ, ◌+◌, ap, sym, map, slice_get, List, Some}
use Rattle.cluster_routing.specs.AllNodes.{ascending, put_address}
use Rattle.cluster_routing.specs.Seen.{address}
use Rattle.cluster_routing.specs.declared.address.NodeAddress.{NodeAddress}
use Rattle.cluster_routing.proofs.NodePlaces.{node_of, replica_at, replica_behind}
use Rattle.cluster_routing.proofs.node_places.push_nodes.Goals as goal

pub replicas-init : goal.replicas-init
replicas-init c = record {
  addresses = c.in_ok-push_node.ensures.addresses ∙ ap (λ a. put_address a (ascending (map node_of c.args.placed.now.items))) c.primary-node.ensures;
  places = λ at is before. c.in_ok-push_node.ensures.places at (is 0 ∙ ap (λ a. Some a) (sym c.primary-node.ensures)) before;
}

pub replicas-preserved : goal.replicas-preserved
replicas-preserved c =
    let nodes : List NodeAddress = c.replicas-node-items.result.now in
    let n : ℕ = c.replicas.number in
    let a : NodeAddress = c.node-item.result in
    record {
      addresses = c.in_ok-push_node-2.ensures.addresses ∙ ap (put_address (address a)) c.replicas.invariant.addresses ∙ replica_behind (ascending (map node_of c.args.placed.now.items)) c.args.nodes.now.primary nodes n a c.replicas-test.true c.node-item.is;
      places = λ at is before.
          c.in_ok-push_node-2.ensures.places at (is (n + 1) ∙ ap (λ rs. slice_get (c.args.nodes.now.primary ∷ rs) (n + 1)) (sym c.replicas-node-items.ensures) ∙ replica_at c.args.nodes.now.primary nodes n a c.replicas-test.true c.node-item.is)
          (c.replicas.invariant.places at is before);
    }
