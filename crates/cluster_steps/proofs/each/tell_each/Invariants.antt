use Rattle.std.specs.List.{AllByRecursion}
use Rattle.std.specs.VecDeque.{deque_items}
use Rattle.std.proofs.Common.{◌≡◌, ◌<◌, ◌≤◌, ◌+◌, ◌++◌, drop, length, map, vec_capacity, vec_len}
use Rattle.resp_core.specs.View.{view}
use Rattle.cluster_calls.specs.Links.World.{tree_result}
use Rattle.cluster_steps.specs.Each.{came_from, left_or_cause, told_each}
use Rattle.cluster_steps.proofs.each.tell_each.Given as goal

abbrev pub invariant-numbers : goal.invariant-numbers
invariant-numbers l = record {
  within : AllByRecursion (λ number. number < vec_len l.answers) (drop l.number-index l.numbers);
  room : vec_len l.outcomes + length (drop l.number-index l.numbers) ≤ vec_capacity l.outcomes;
  told : map (tree_result view) l.outcomes.items ++ told_each (drop l.number-index l.numbers) (came_from (map (left_or_cause deque_items) l.answers.items))
      ≡ map (tree_result view) l.fn.outcomes.items ++ told_each l.numbers (came_from (map (left_or_cause deque_items) l.fn.answers.items));
}
