use Rattle.std.specs.List.{AllByRecursion}
use Rattle.std.proofs.Common.{◌≡◌, ◌≤◌, ◌+◌, ◌++◌, List, drop, length, map, vec_capacity, vec_len}
use Rattle.resp_core.specs.View.{view}
use Rattle.cluster_calls.specs.Links.World.{tree_result}
use Rattle.cluster_steps.specs.Joins as joins
use Rattle.proxy_core.specs.Batch.{batch_of}
use Rattle.proxy_core.specs.declared.outcome.Outcome.{Outcome}
use Rattle.cluster_servers.specs.declared.reply.Reply.{Reply}
use Rattle.cluster_servers.specs.Together.{AreTold}
use Rattle.cluster_servers.proofs.together.tell_all.Given as goal

abbrev pub invariant-batch : goal.invariant-batch
invariant-batch l = record {
  each : AllByRecursion joins.IsTold (map (tree_result view) l.queue.items);
  left : length l.queue.items ≡ length (drop l.asked-index l.batch);
  room : vec_len l.outcomes + length (drop l.asked-index l.batch) ≤ vec_capacity l.outcomes;
  told : (rest : List (Outcome Reply)) → AreTold (batch_of (drop l.asked-index l.batch)) (map (tree_result view) l.queue.items) rest
      → AreTold (batch_of l.batch) (map (tree_result view) l.fn.told.items) (l.outcomes.items ++ rest);
}
