use Rattle.std.specs.Vec.Iter.{into_iter_items}
use Rattle.std.proofs.Common.{◌∙◌, ap, map, sym}
use Rattle.std.proofs.lemmas.List.{nil_from_length}
use Rattle.std.proofs.lemmas.Result.{err_from_is_err_and}
use Rattle.resp_core.specs.View.{pair_view}
use Rattle.cluster_routing.specs.Outcomes.{outcomes_of}
use Rattle.cluster_routing.specs.Policies.{all_replies}
use Rattle.cluster_routing.proofs.NodeReplies.{pairs_behind, pairs_done, pairs_more, pairs_start, pairs_stopped}
use Rattle.cluster_routing.proofs.combine.nodes.by_address.Goals as goal

pub outcomes-init : goal.outcomes-init
outcomes-init c =
    pairs_start (all_replies (outcomes_of c.args.outcomes.items))
    ∙ ap (λ done. pairs_behind (map pair_view done) (all_replies (outcomes_of c.args.outcomes.items))) (sym c.new-pairs.ensures.items)
    ∙ ap (λ os. pairs_behind (map pair_view c.new-pairs.result.items) (all_replies (outcomes_of os))) (sym c.into_iter-outcome-iterator.ensures.into_iter_gives.0)

pub outcomes-preserved : goal.outcomes-preserved
outcomes-preserved c = c.outcomes.invariant ∙ pairs_more c.outcomes.pairs.items c.push.new.self.items (into_iter_items c.outcomes.outcome-iterator) (into_iter_items c.next.new.self) c.in-Some.outcome c.in_ok-value.value c.in_ok-node.node c.in-Some.ensures.steps.0 c.in_ok-value.was c.in_ok-node.ensures c.in_ok-push.ensures.items

pub returns-in_err-value : goal.returns-in_err-value
returns-in_err-value c =
    let p = err_from_is_err_and c.from_residual.result c.from_residual.ensures.1 in
    rw (p.1, p.2) (λ m. sym (c.outcomes.invariant ∙ pairs_stopped c.outcomes.pairs.items (into_iter_items c.outcomes.outcome-iterator) (into_iter_items c.next.new.self) c.in-Some.outcome _ c.in-Some.ensures.steps.0 c.in_err-value.was))

pub returns : goal.returns
returns c memory = sym (c.outcomes.invariant ∙ pairs_done c.outcomes.pairs (into_iter_items c.outcomes.outcome-iterator) (nil_from_length _ (sym c.outcomes.outcome-iterator.rest.ok.0 ∙ c.in-None.ensures.steps.0)))
