use Rattle.std.proofs.Common.{◌∙◌, ap, sym}
use Rattle.std.proofs.lemmas.Result.{err_from_is_err_and}
use Rattle.cluster_routing.specs.Outcomes.{outcomes_of}
use Rattle.cluster_routing.specs.Policies.{all_replies, combine_outcomes}
use Rattle.cluster_routing.proofs.NodeReplies.{by_all, by_map, values_refused, values_replied}
use Rattle.cluster_routing.proofs.combine.nodes.combine_nodes.Goals as goal

pub returns-in-AllSucceeded : goal.returns-in-AllSucceeded
returns-in-AllSucceeded c memory = c.all_succeeded.ensures ∙ ap (λ p. combine_outcomes p (outcomes_of c.args.outcomes.items)) (sym c.in-AllSucceeded.is)

pub returns-in-OneSucceeded : goal.returns-in-OneSucceeded
returns-in-OneSucceeded c memory = c.one_succeeded.ensures ∙ ap (λ p. combine_outcomes p (outcomes_of c.args.outcomes.items)) (sym c.in-OneSucceeded.is)

pub returns-in-FirstSucceededNonEmptyOrAllEmpty : goal.returns-in-FirstSucceededNonEmptyOrAllEmpty
returns-in-FirstSucceededNonEmptyOrAllEmpty c memory = c.first_not_nil.ensures ∙ ap (λ p. combine_outcomes p (outcomes_of c.args.outcomes.items)) (sym c.in-FirstSucceededNonEmptyOrAllEmpty.is)

pub returns-in-Special : goal.returns-in-Special
returns-in-Special c memory = c.by_address.ensures memory ∙ by_map (all_replies (outcomes_of c.args.outcomes.items)) ∙ ap (λ p. combine_outcomes p (outcomes_of c.args.outcomes.items)) (sym c.in-Special.is)

pub returns-in_err-values_in-in_default : goal.returns-in_err-values_in-in_default
returns-in_err-values_in-in_default c =
    let p = err_from_is_err_and c.from_residual.result c.from_residual.ensures.1 in
    rw (p.1, p.2) (λ m. values_refused (all_replies (outcomes_of c.args.outcomes.items)) _ c.args.policy (c.in_err-values_in-in_default.ensures (λ k. m (cc k)))
    ∙ by_all c.args.policy (outcomes_of c.args.outcomes.items) c.in_default.not-AllSucceeded c.in_default.not-OneSucceeded c.in_default.not-FirstSucceededNonEmptyOrAllEmpty)

pub returns-in_ok-values_in-in_default : goal.returns-in_ok-values_in-in_default
returns-in_ok-values_in-in_default c memory =
    values_replied (all_replies (outcomes_of c.args.outcomes.items)) _ c.args.policy _ (c.in_ok-values_in-in_default.ensures (λ k. cc k)) (λ replies same. c.combine_values.ensures c.in_default.not-Special replies same memory)
    ∙ by_all c.args.policy (outcomes_of c.args.outcomes.items) c.in_default.not-AllSucceeded c.in_default.not-OneSucceeded c.in_default.not-FirstSucceededNonEmptyOrAllEmpty
