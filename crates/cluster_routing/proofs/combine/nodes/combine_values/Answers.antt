use Rattle.std.proofs.Common.{◌∙◌, ap, sym, Err}
use Rattle.cluster_routing.specs.Policies.{aggregate_tree, and_tree, array_of_all, combine_replies, counts_tree, or_bad_reply}
use Rattle.cluster_routing.proofs.NodeReplies.{by_and, other_values}
use Rattle.cluster_routing.proofs.combine.nodes.combine_values.Goals as goal

pub returns-in-Aggregate : goal.returns-in-Aggregate
returns-in-Aggregate c other replies same memory = c.aggregate.ensures ∙ ap (λ ts. or_bad_reply (aggregate_tree c.in-Aggregate.op ts)) same ∙ ap (λ p. or_bad_reply (combine_replies p replies)) (sym c.in-Aggregate.is)

pub returns-in-AggregateLogical : goal.returns-in-AggregateLogical
returns-in-AggregateLogical c other replies same memory =
    c.logical_aggregate.ensures memory ∙ ap (λ ts. or_bad_reply (and_tree ts)) same ∙ ap or_bad_reply (by_and c.in-AggregateLogical.op replies) ∙ ap (λ p. or_bad_reply (combine_replies p replies)) (sym c.in-AggregateLogical.is)

pub returns-in-CombineArrays : goal.returns-in-CombineArrays
returns-in-CombineArrays c other replies same memory = c.combine_array_results.ensures memory ∙ ap (λ ts. or_bad_reply (array_of_all ts)) same ∙ ap (λ p. or_bad_reply (combine_replies p replies)) (sym c.in-CombineArrays.is)

pub returns-in-CombineMaps : goal.returns-in-CombineMaps
returns-in-CombineMaps c other replies same memory = c.combine_map_results.ensures memory ∙ ap (λ ts. or_bad_reply (counts_tree ts)) same ∙ ap (λ p. or_bad_reply (combine_replies p replies)) (sym c.in-CombineMaps.is)

pub returns-in_default : goal.returns-in_default
returns-in_default c other replies same memory =
    ap (λ e. Err e) c.from.ensures ∙ other_values c.args.policy replies c.in_default.not-Aggregate c.in_default.not-AggregateLogical c.in_default.not-CombineArrays c.in_default.not-CombineMaps other
