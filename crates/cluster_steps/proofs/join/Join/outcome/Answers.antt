use Rattle.std.proofs.Common.{◌≡◌, ◌++◌, ◌∙◌, map, take, length, sym, ap, subst}
use Rattle.std.specs.List.{AllByRecursion}
use Rattle.std.proofs.lemmas.List.{length-map, take-map}
use Rattle.resp_core.specs.View.{view}
use Rattle.cluster_calls.specs.Links.World.{tree_result}
use Rattle.cluster_steps.specs.Joins.{IsJoinedBy, IsTold, shown_join}
use Rattle.cluster_steps.proofs.Joining.{all-taken}
use Rattle.cluster_steps.proofs.join.Join.outcome.Goals as goal

pub outcome_of_parts-requires-clause-told : goal.outcome_of_parts-requires-clause-told
outcome_of_parts-requires-clause-told c =
    let queue = c.args.queue.now.items in
    let moved : c.move_front.new.outcomes.items ≡ take c.len.result queue = c.move_front.ensures.outcomes ∙ ap (λ os. os ++ take c.len.result queue) c.requires.room.no_outcomes in
    subst (λ os. AllByRecursion IsTold (map (tree_result view) os)) (sym moved)
    (subst (AllByRecursion IsTold) (take-map (tree_result view) c.len.result queue) (all-taken IsTold c.len.result (map (tree_result view) queue) c.requires.told))

pub returns-clause-outcome : goal.returns-clause-outcome
returns-clause-outcome c =
    let queue = c.args.queue.now.items in
    let moved : c.move_front.new.outcomes.items ≡ take c.len.result queue = c.move_front.ensures.outcomes ∙ ap (λ os. os ++ take c.len.result queue) c.requires.room.no_outcomes in
    let count : c.len.result ≡ length (shown_join c.args.self).routes = c.len.ensures ∙ c.args.self.split.routes.ok.0 ∙ sym (length-map _ _) in
    subst (λ os. IsJoinedBy (shown_join c.args.self) (map (tree_result view) os) (tree_result view c.outcome_of_parts.result)) (moved ∙ ap (λ n. take n queue) count) c.outcome_of_parts.ensures
