use Rattle.std.proofs.Common.{◌≡◌, ◌++◌, Some, map}
use Rattle.cluster_steps.proofs.order.takeable.Given as goal

abbrev pub invariant-items : goal.invariant-items
invariant-items g l = record {
  split : l.fn.items.items ≡ l.yielded ++ l.item-iterator.rest.items;
  made : l.all.items ≡ map (λ item. Some item) l.yielded;
}
