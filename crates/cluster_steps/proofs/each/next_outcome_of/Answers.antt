use Rattle.std.specs.VecDeque.{deque_items}
use Rattle.std.proofs.Common.{◌∙◌, map, refl, ap, subst, ◌<◌}
use Rattle.std.proofs.lemmas.List.{map-set}
use Rattle.std.proofs.lemmas.Option.{slice_get_read}
use Rattle.cluster_steps.specs.Each.{came_from, left_or_cause}
use Rattle.cluster_steps.proofs.Telling.{came_more, get_mapped}
use Rattle.cluster_steps.proofs.each.next_outcome_of.Goals as goal

pub returns-clause-rest : goal.returns-clause-rest
returns-clause-rest c = λ k.
    let items = c.args.answers.now.items in
    let within = subst (λ n. c.args.number < n) c.args.answers.now.ok.0 c.requires in
    let found = get_mapped (left_or_cause deque_items) items c.args.number c.index_mut.result.now (slice_get_read _ _ _ _ refl within c.index_mut.ensures.value) in
    ap (λ came. came_from came k) (map-set _ _ _ _) ∙ came_more (map (left_or_cause deque_items) items) c.args.number _ _ found c.next_outcome.ensures.rest k
