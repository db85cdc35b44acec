use Rattle.std.specs.Vec.Iter.{into_iter_items}
use Rattle.std.proofs.Common.{◌≡◌, ◌+◌, ◌≤◌, ◌++◌, length, map, vec_capacity, vec_len}
use Rattle.resp_core.specs.View.{view}
use Rattle.cluster_calls.specs.Calls.Each.{reply_in}
use Rattle.cluster_calls.specs.Calls.Refusals.{refusal_in}
use Rattle.cluster_calls.specs.Calls.Task.{first_refusal}
use Rattle.cluster_calls.specs.Links.World.{tree_result}
use Rattle.cluster_steps.proofs.join.take_replies.Given as goal

abbrev pub invariant-outcomes : goal.invariant-outcomes
invariant-outcomes l = record {
  room : vec_len l.replies + length (into_iter_items l.outcome-iterator) ≤ vec_capacity l.replies;
  refused : first_refusal (map refusal_in (map (tree_result view) l.fn.outcomes.items)) ≡ first_refusal (map refusal_in (map (tree_result view) (into_iter_items l.outcome-iterator)));
  replies : map view l.replies.items ++ map reply_in (map (tree_result view) (into_iter_items l.outcome-iterator)) ≡ map view l.fn.replies.items ++ map reply_in (map (tree_result view) l.fn.outcomes.items);
}
