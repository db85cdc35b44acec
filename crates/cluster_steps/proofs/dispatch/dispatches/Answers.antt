use Rattle.std.proofs.Common.{◌∙◌, ◌++◌, ◌∷◌, [], map, refl, sym, ap, append-nil, append_assoc}
use Rattle.std.proofs.lemmas.List.{map-append, nil_from_length}
use Rattle.std.proofs.lemmas.Result.{err_from_is_err_and}
use Rattle.cluster_steps.specs.Dispatches.{dispatch_of}
use Rattle.cluster_steps.specs.FirstPlaces.{part_of}
use Rattle.cluster_steps.proofs.Dispatching.{all_more, dispatched_as, loop_as, loop_done, loop_more, loop_refused}
use Rattle.cluster_steps.proofs.dispatch.dispatches.Goals as goal

pub returns-in_err-hop-clause-dispatched : goal.returns-in_err-hop-clause-dispatched
returns-in_err-hop-clause-dispatched g c =
    let p = err_from_is_err_and c.from_residual-in_err-hop.result c.from_residual-in_err-hop.ensures.1 in
    let left = c.parts.invariant.split ∙ ap (λ rs. c.parts.yielded ++ rs) c.in-Some.ensures.steps.0 in
    rw (p.1, p.2) (λ m settings. dispatched_as _ _
    (loop_refused _ _ _ (part_of c.in-Some.part) (map part_of c.next.new.self.rest.items) _ _ _ _ (c.parts.invariant.loop settings) (rw (c.parts.invariant.stays, c.parts.invariant.kept) at (c.in_err-hop.ensures.found (λ k. m (cc k)))))
    (sym (ap (map part_of) left ∙ map-append part_of c.parts.yielded _)) refl refl)

pub parts-preserved : goal.parts-preserved
parts-preserved g c = record {
  split = c.parts.invariant.split ∙ ap (λ rs. c.parts.yielded ++ rs) c.in-Some.ensures.steps.0 ∙ sym (append_assoc c.parts.yielded (c.in-Some.part ∷ []) _);
  loop = λ settings. loop_as
      (loop_more _ _ _ (part_of c.in-Some.part) _ _ _ _ (c.parts.invariant.loop settings) (rw (c.parts.invariant.stays, c.parts.invariant.kept) at (c.in_ok-hop.ensures.found (λ k. cc k))))
      (sym (map-append part_of c.parts.yielded (c.in-Some.part ∷ [])))
      (sym (map-append dispatch_of c.parts.all.items _) ∙ ap (map dispatch_of) (sym c.in_ok-push.ensures.items));
  stays = c.in_ok-hop.ensures.stays ∙ c.parts.invariant.stays;
  kept = c.in_ok-hop.ensures.kept ∙ c.parts.invariant.kept;
  placed = rw c.in_ok-push.ensures.items (all_more _ _ _ c.parts.invariant.placed (record { place = c.in_ok-hop.ensures.place; within = c.in_ok-hop.ensures.within; direct = c.in_ok-hop.ensures.direct }));
}

pub returns-clause-dispatched : goal.returns-clause-dispatched
returns-clause-dispatched g c = λ m settings.
    let all = c.parts.invariant.split ∙ ap (λ rs. c.parts.yielded ++ rs) (nil_from_length _ (sym c.parts.part-iterator.rest.ok.0 ∙ c.in-None.ensures.steps.0)) ∙ append-nil c.parts.yielded in
    dispatched_as _ _ (loop_done _ _ _ _ _ (c.parts.invariant.loop settings)) (ap (map part_of) (sym all)) refl refl
