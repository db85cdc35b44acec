use Rattle.std.proofs.Common.{◌≡◌, ◌<◌, ◌≤◌, ◌+◌, vec_capacity, vec_len}
use Rattle.cluster_routing.specs.Info.{texts}
use Rattle.cluster_client.specs.Whole.{whole}
use Rattle.cluster_steps.specs.Turns.{hop_to}
use Rattle.cluster_calls.proofs.LinkLaws.ChainLoop.{Loop}
use Rattle.cluster_client.proofs.client.ClusterClient.follow.Given as goal

abbrev pub invariant-requests : goal.invariant-requests
invariant-requests g l = record {
  loop : Loop (whole g.L.ConnectionLike.seen l.fn.self) (whole g.L.ConnectionLike.seen l.self) (texts l.fn.first.dispatch.args.items) (hop_to l.fn.first.dispatch.to) l.redirects (hop_to l.request.dispatch.to) l.request.dispatch.to.link;
  same : texts l.request.dispatch.args.items ≡ texts l.fn.first.dispatch.args.items;
  within : l.request.dispatch.to.link < vec_len l.self.links.nodes;
  room : vec_len l.self.asked + l.fn.parts ≤ vec_capacity l.self.asked;
}

abbrev pub decreases-requests : goal.decreases-requests
decreases-requests g l = l.redirects
