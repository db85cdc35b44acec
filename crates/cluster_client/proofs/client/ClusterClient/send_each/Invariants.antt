use Rattle.std.specs.List.{AllByRecursion}
use Rattle.std.specs.Vec.Iter.{into_iter_items}
use Rattle.std.proofs.Common.{◌≡◌, ◌<◌, ◌≤◌, ◌+◌, map, length, vec_capacity, vec_len}
use Rattle.cluster_steps.specs.Groups.{group_of, request_count}
use Rattle.cluster_steps.specs.GroupRuns.{IsGroupPlaced}
use Rattle.cluster_calls.specs.Links.World.{nodes}
use Rattle.cluster_client.specs.Whole.{whole}
use Rattle.cluster_client.proofs.EachLoop.{SendLoop}
use Rattle.cluster_client.proofs.client.ClusterClient.send_each.Given as goal

abbrev pub invariant-groups : goal.invariant-groups
invariant-groups g l = record {
  loop : SendLoop (whole g.L.ConnectionLike.seen l.fn.self) (whole g.L.ConnectionLike.seen l.self) (map group_of l.fn.groups.items) (map group_of (into_iter_items l.group-iterator)) l.sent.items;
  placed : AllByRecursion (λ h. IsGroupPlaced (nodes g.L.ConnectionLike.seen l.fn.self.links.nodes.items) (group_of h)) (into_iter_items l.group-iterator);
  links : vec_len l.self.links.nodes ≡ vec_len l.fn.self.links.nodes;
  log_room : vec_len l.self.asked + request_count (map group_of (into_iter_items l.group-iterator)) ≤ vec_capacity l.self.asked;
  room : vec_len l.sent + length (into_iter_items l.group-iterator) ≤ vec_capacity l.sent;
  count : vec_len l.sent + length (into_iter_items l.group-iterator) ≡ vec_len l.fn.groups;
  within : AllByRecursion (λ s. s.link < vec_len l.fn.self.links.nodes) l.sent.items;
}
