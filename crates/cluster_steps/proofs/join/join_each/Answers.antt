use Rattle.std.specs.Prelude.{option_map}
use Rattle.std.specs.List.{AllByRecursion}
use Rattle.std.specs.Vec.Iter.{into_iter_items}
use Rattle.std.proofs.Common.{◌≡◌, ◌++◌, ◌∙◌, [], ◌∷◌, map, length, refl, sym, ap, subst, append-nil, append_assoc, arith}
use Rattle.std.proofs.lemmas.Grind.{common_steps}
use Rattle.std.proofs.lemmas.List.{drop-map, map-append, nil_from_length, take-map}
use Rattle.resp_core.specs.View.{view}
use Rattle.cluster_calls.specs.Links.World.{tree_result}
use Rattle.cluster_steps.specs.Joins.{AreOutcomesBy, IsOutcomeBy, IsTold, shown_join, width_by, width_of_all}
use Rattle.cluster_steps.proofs.Joining.{all-dropped, behind, outcome_more}
use Rattle.cluster_steps.proofs.join.join_each.Goals as goal

pub joins-preserved : goal.joins-preserved
joins-preserved c =
    let steps : into_iter_items c.joins.join-iterator ≡ c.in-Some.join ∷ into_iter_items c.next.new.self = c.in-Some.ensures.steps.0 in
    let p = option_map shown_join c.in-Some.join in
    let ps = map (option_map shown_join) (into_iter_items c.next.new.self) in
    let n = width_by p in
    let queue = c.joins.queue.items in
    let left = c.position_outcome.ensures.queue in
    let outcome = tree_result view c.position_outcome.result in
    let pushed : c.push.new.self.items ≡ c.joins.outcomes.items ++ c.position_outcome.result ∷ [] = rw (c.push.ensures.items, c.unwrap.ensures) refl in
    let ready = rw steps at c.joins.invariant.ready in
    let whole = rw steps at c.joins.invariant.whole in
    let room = rw steps at c.joins.invariant.room in
    let serves = rw steps at c.joins.invariant.serves in
    record {
      ready = ready.1;
      told = subst (AllByRecursion IsTold) (drop-map (tree_result view) n queue ∙ ap (map (tree_result view)) (sym left)) (all-dropped IsTold n (map (tree_result view) queue) c.joins.invariant.told);
      whole = behind n (width_of_all ps) queue whole ∙ ap length (sym left);
      room = grind (arith, common_steps);
      serves = λ later h.
          subst (λ os. AreOutcomesBy (map (option_map shown_join) c.args.joins.items) (map (tree_result view) c.args.told.items) os)
          (sym (append_assoc (map (tree_result view) c.joins.outcomes.items) (outcome ∷ []) later) ∙ ap (λ os. os ++ later) (sym (ap (map (tree_result view)) pushed ∙ map-append _ _ _)))
          (serves (outcome ∷ later)
          (outcome_more p ps (map (tree_result view) queue) (map (tree_result view) c.position_outcome.new.queue.items) outcome
          (subst (λ os. IsOutcomeBy p os outcome) (sym (take-map (tree_result view) n queue)) c.position_outcome.ensures.outcome)
          (ap (map (tree_result view)) left ∙ sym (drop-map (tree_result view) n queue)) later h));
    }

pub returns : goal.returns
returns c =
    let none : into_iter_items c.joins.join-iterator ≡ [] = nil_from_length _ (sym c.joins.join-iterator.rest.ok.0 ∙ c.in-None.ensures.steps.0) in
    let whole = rw none at c.joins.invariant.whole in
    let serves = rw none at c.joins.invariant.serves in
    let empty : c.joins.queue.items ≡ [] = nil_from_length _ (sym whole) in
    subst (λ os. AreOutcomesBy (map (option_map shown_join) c.args.joins.items) (map (tree_result view) c.args.told.items) os) (append-nil (map (tree_result view) c.joins.outcomes.items))
    (serves [] (ap (map (tree_result view)) empty))
