use Rattle.std.proofs.Common.{◌≡◌, ◌+◌, ◌≤◌, length, map, vec_capacity, vec_len}
use Rattle.std.specs.List.{AllByRecursion}
use Rattle.std.specs.Vec.Iter.{into_iter_items}
use Rattle.resp_core.specs.View.{view}
use Rattle.cluster_steps.specs.Dispatches.{IsPlaced, dispatch_of}
use Rattle.cluster_client.specs.Whole.{whole}
use Rattle.cluster_calls.specs.Links.World.{nodes}
use Rattle.cluster_calls.proofs.LinkLaws.PartLoop.{PartLoop}
use Rattle.cluster_client.proofs.client.ClusterClient.follow_all.Given as goal

abbrev pub invariant-parts : goal.invariant-parts
invariant-parts g l = record {
  loop : PartLoop (whole g.L.ConnectionLike.seen l.fn.self) (whole g.L.ConnectionLike.seen l.self) (map dispatch_of l.fn.parts.items) (map dispatch_of (map (λ r. r.dispatch) (into_iter_items l.request-iterator))) (map view l.replies.items);
  placed : AllByRecursion (IsPlaced (nodes g.L.ConnectionLike.seen l.fn.self.links.nodes.items)) (map (λ r. r.dispatch) (into_iter_items l.request-iterator));
  count : l.unanswered ≡ length (into_iter_items l.request-iterator);
  room : vec_len l.replies + l.unanswered ≤ vec_capacity l.replies;
  log_room : vec_len l.self.asked + l.unanswered ≤ vec_capacity l.self.asked;
}
