use Rattle.std.proofs.Common.{◌+◌, ◌≤◌, length, map, vec_capacity, vec_len}
use Rattle.std.specs.List.{AllByRecursion}
use Rattle.std.specs.Vec.Iter.{into_iter_items}
use Rattle.cluster_routing.specs.Address.{same_address}
use Rattle.cluster_routing.specs.Lists.{IsDistinct}
use Rattle.cluster_steps.specs.Dispatches.{IsPlaced, dispatch_of}
use Rattle.cluster_client.specs.NodeRuns.{outcome_of_reply}
use Rattle.cluster_client.specs.Whole.{whole}
use Rattle.cluster_calls.specs.Links.World.{nodes}
use Rattle.cluster_client.proofs.NodeLoop.{AskLoop, node_of}
use Rattle.cluster_client.proofs.client.ClusterClient.ask_each.Given as goal

abbrev pub invariant-nodes : goal.invariant-nodes
invariant-nodes g l = record {
  loop : AskLoop (whole g.L.ConnectionLike.seen l.fn.self) (whole g.L.ConnectionLike.seen l.self) (map dispatch_of l.fn.dispatches.items) (map dispatch_of (map (λ q. q.request.dispatch) (into_iter_items l.question-iterator))) (map outcome_of_reply l.replies.items);
  placed : AllByRecursion (IsPlaced (nodes g.L.ConnectionLike.seen l.self.links.nodes.items)) (map (λ q. q.request.dispatch) (into_iter_items l.question-iterator));
  apart : IsDistinct same_address (map node_of (map (λ q. q.request.dispatch) (into_iter_items l.question-iterator)));
  room : vec_len l.replies + length (into_iter_items l.question-iterator) ≤ vec_capacity l.replies;
  log_room : vec_len l.self.asked + length (into_iter_items l.question-iterator) ≤ vec_capacity l.self.asked;
}
