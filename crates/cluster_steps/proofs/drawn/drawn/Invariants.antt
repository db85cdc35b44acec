use Rattle.std.specs.List.{AllByRecursion}
use Rattle.std.proofs.Common.{◌≡◌, ◌<◌, ◌++◌, drop, map, vec_len}
use Rattle.cluster_routing.specs.Lists.{draw}
use Rattle.cluster_steps.specs.Queues.{items_in, queue_in}
use Rattle.cluster_steps.proofs.drawn.drawn.Given as goal

abbrev pub invariant-numbers : goal.invariant-numbers
invariant-numbers g l = record {
  within : AllByRecursion (λ number. number < vec_len l.answered) (drop l.number-index l.numbers);
  told : l.items.items ++ draw (drop l.number-index l.numbers) (queue_in (map items_in l.answered.items)) ≡ draw l.numbers (queue_in (map items_in l.fn.answered.items));
}
