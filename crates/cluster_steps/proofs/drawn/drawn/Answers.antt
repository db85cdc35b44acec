use Rattle.std.specs.Prelude.{option_map, option_to_list}
use Rattle.std.proofs.Common.{◌≡◌, ◌<◌, ◌∙◌, ◌∷◌, ◌++◌, ℕ, add-one, append-nil, drop, drop-cons, get_or, map, refl, sym, ap, subst}
use Rattle.std.proofs.lemmas.List.{length-map, map-set}
use Rattle.std.proofs.lemmas.Option.{slice_get-map, slice_get_read}
use Rattle.cluster_routing.specs.Lists.{front}
use Rattle.cluster_steps.specs.Queues.{items_in, list_or_none, queue_in}
use Rattle.cluster_steps.proofs.Queueing.{drawn_more, front_popped, queue_popped, rest_popped}
use Rattle.cluster_steps.proofs.drawn.drawn.Goals.{in-Some+in_ok-push, in_default}
use Rattle.cluster_steps.proofs.drawn.drawn.Goals as goal

pub numbers-preserved : goal.numbers-preserved
numbers-preserved g c =
    let all = c.args.numbers.now in
    let i = c.numbers.number-index in
    let number = get_or all i 0 in
    let answered = c.numbers.answered.items in
    let here = drop-cons all i 0 c.numbers-test.true ∙ ap (λ k. number ∷ drop k all) (sym (add-one i)) in
    let within = rw here at c.numbers.invariant.within in
    let there = subst (λ n. number < n) c.numbers.answered.ok.0 within.0 in
    let at = slice_get-map items_in answered number ∙ ap (option_map items_in) (slice_get_read _ _ _ _ refl there c.index_mut.ensures.value) in
    let popped = c.pop_front.ensures in
    let len = c.index_mut.result.now.items.ok.0 in
    let queue = queue_in (map items_in answered) in
    let next = front_popped _ c.pop_front.result _ _ _ popped.items len popped.cases ∙ ap (λ o. front (list_or_none o)) (sym at) in
    let left = λ (k : ℕ). ap (λ qs. queue_in qs k) (map-set _ _ _ _)
    ∙ queue_popped (map items_in answered) number _ _ (subst (λ n. number < n) (sym (length-map answered items_in)) there) at (rest_popped _ c.pop_front.result _ _ _ popped.items len popped.cases) k in
    let more : c.match-pop_front.items.items ≡ c.numbers.items.items ++ option_to_list c.pop_front.result = elim c.match-pop_front.branch [
      | in-Some+in_ok-push w ↦ ap (λ v. v.items) w.items-is ∙ w.in_ok-push.ensures.items ∙ ap (λ o. c.numbers.items.items ++ option_to_list o) (sym w.in-Some.is)
      | in_default w ↦ ap (λ v. v.items) w.items-is ∙ sym (append-nil c.numbers.items.items) ∙ ap (λ o. c.numbers.items.items ++ option_to_list o) (sym w.in_default.is)
    ] in
    record {
      within = within.1;
      told = drawn_more c.numbers.items.items number _ queue _ _ _ _ (rw here at c.numbers.invariant.told) next left more;
    }
