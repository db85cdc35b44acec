use Rattle.std.proofs.Common.{◌≡◌, ◌<◌, ◌≤◌, ◌+◌, vec_capacity, vec_len}
use Rattle.cluster_calls.specs.Calls.OneSlot.{args_of}
use Rattle.cluster_calls.specs.Calls.Transactions.{attempt}
use Rattle.cluster_calls.proofs.LinkLaws.AttemptLoop.{Loop}
use Rattle.cluster_steps.specs.Turns.{hop_to}
use Rattle.cluster_client.specs.Whole.{whole}
use Rattle.cluster_client.proofs.client.ClusterClient.follow_attempts.Given as goal

abbrev pub invariant-attempts : goal.invariant-attempts
invariant-attempts g l = record {
  loop : Loop (whole g.L.ConnectionLike.seen l.fn.self) (whole g.L.ConnectionLike.seen l.self) (args_of l.fn.commands) (hop_to l.fn.first.hop) l.redirects (hop_to l.attempt.hop) l.attempt.hop.link;
  same : l.attempt.requests.items ≡ attempt (hop_to l.attempt.hop) (args_of l.fn.commands);
  within : l.attempt.hop.link < vec_len l.self.links.nodes;
  room : vec_len l.self.asked + vec_len l.attempt.requests ≤ vec_capacity l.self.asked;
}

abbrev pub decreases-attempts : goal.decreases-attempts
decreases-attempts g l = l.redirects
