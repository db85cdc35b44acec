use Rattle.std.proofs.Common.{◌≡◌, ◌++◌, map}
use Rattle.cluster_steps.proofs.ready.make_all_ready.Given as goal

abbrev pub invariant-dispatches : goal.invariant-dispatches
invariant-dispatches l = record {
  split : l.fn.dispatches.items ≡ l.yielded ++ l.dispatch-iterator.rest.items;
  made : map (λ r. r.dispatch) l.all.items ≡ l.yielded;
}
