use Rattle.std.specs.Prelude.{IfSome, option_map}
use Rattle.std.specs.List.{AllByRecursion}
use Rattle.std.specs.Vec.Iter.{into_iter_items}
use Rattle.std.proofs.Common.{◌≡◌, ◌+◌, ◌≤◌, ◌++◌, List, Result, length, map, vec_capacity, vec_len}
use Rattle.resp_core.specs.Errors.{Refusal}
use Rattle.resp_core.specs.Trees.{Tree}
use Rattle.resp_core.specs.View.{view}
use Rattle.cluster_calls.specs.Links.World.{tree_result}
use Rattle.cluster_steps.specs.Joins.{AreOutcomesBy, HasRoom, IsTold, shown_join, width_of_all}
use Rattle.cluster_steps.proofs.join.join_each.Given as goal

abbrev pub invariant-joins : goal.invariant-joins
invariant-joins l = record {
  ready : AllByRecursion (λ j. IfSome j HasRoom) (into_iter_items l.join-iterator);
  told : AllByRecursion IsTold (map (tree_result view) l.queue.items);
  whole : width_of_all (map (option_map shown_join) (into_iter_items l.join-iterator)) ≡ length l.queue.items;
  room : vec_len l.outcomes + length (into_iter_items l.join-iterator) ≤ vec_capacity l.outcomes;
  serves : (later : List (Result Tree Refusal)) → AreOutcomesBy (map (option_map shown_join) (into_iter_items l.join-iterator)) (map (tree_result view) l.queue.items) later
      → AreOutcomesBy (map (option_map shown_join) l.fn.joins.items) (map (tree_result view) l.fn.told.items) (map (tree_result view) l.outcomes.items ++ later);
}
