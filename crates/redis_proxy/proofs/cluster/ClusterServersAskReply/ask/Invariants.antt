use Rattle.std.proofs.Common.{◌≡◌, ◌≤◌, length}
use Rattle.redis_proxy.proofs.cluster.ClusterServersAskReply.ask.Given as goal

abbrev pub invariant-rest : goal.invariant-rest
invariant-rest g l = record {
  count : length l.outcomes.items ≡ l.place;
  within : l.place ≤ length l.batch;
}
