use Rattle.std.proofs.Common.{◌≡◌, ◌+◌, ◌-◌, ◌≤◌, ◌++◌, drop, length, take, vec_capacity, vec_len}
use Rattle.cluster_steps.proofs.join.move_front.Given as goal

abbrev pub invariant-moved : goal.invariant-moved
invariant-moved l = record {
  room : vec_len l.outcomes + (l.count - l.moved) ≤ vec_capacity l.outcomes;
  there : l.count - l.moved ≤ length l.queue.items;
  outcomes : l.outcomes.items ++ take (l.count - l.moved) l.queue.items ≡ l.fn.outcomes.items ++ take l.count l.fn.queue.items;
  queue : drop (l.count - l.moved) l.queue.items ≡ drop l.count l.fn.queue.items;
}
