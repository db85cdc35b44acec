use Rattle.std.proofs.Common.{◌≡◌, ◌++◌, length, map, vec_len}
use Rattle.cluster_client.proofs.fan_out.questions.Given as goal

abbrev pub invariant-requests : goal.invariant-requests
invariant-requests l = record {
  split : l.fn.requests.items ≡ l.yielded ++ l.request-iterator.rest.items;
  len : vec_len l.all ≡ length l.yielded;
  same : map (λ q. q.request.dispatch) l.all.items ≡ map (λ r. r.dispatch) l.yielded;
}
