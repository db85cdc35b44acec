use Rattle.std.specs.List.{AllByRecursion}
use Rattle.std.specs.Vec.Iter.{into_iter_items}
use Rattle.std.specs.VecDeque.{deque_items}
use Rattle.std.proofs.Common.{◌≡◌, ◌<◌, ◌≤◌, ◌+◌, List, map, length, vec_capacity, vec_len}
use Rattle.cluster_calls.specs.Links.World.{World}
use Rattle.cluster_steps.specs.AtOnce.{AllSent}
use Rattle.cluster_steps.specs.Each.{left_or_cause}
use Rattle.cluster_steps.specs.Groups.{NodeRequests}
use Rattle.cluster_client.specs.Whole.{whole}
use Rattle.cluster_client.proofs.EachLoop.{EachLoop}
use Rattle.cluster_client.proofs.client.ClusterClient.receive_each.Given as goal

abbrev pub invariant-groups : goal.invariant-groups
invariant-groups g l = record {
  loop : (start : World) (groups : List NodeRequests) → AllSent start (whole g.L.ConnectionLike.seen l.fn.self) groups l.fn.sent.items → EachLoop start (whole g.L.ConnectionLike.seen l.self) groups (into_iter_items l.group-iterator) (map (left_or_cause deque_items) l.answers.items);
  within : AllByRecursion (λ s. s.link < vec_len l.self.links.nodes) (into_iter_items l.group-iterator);
  room : vec_len l.answers + length (into_iter_items l.group-iterator) ≤ vec_capacity l.answers;
  count : vec_len l.answers + length (into_iter_items l.group-iterator) ≡ vec_len l.fn.sent;
}
