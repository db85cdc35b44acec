use Rattle.std.proofs.Common.{◌≡◌, ◌∙◌, ap, sym, map}
use Rattle.resp_core.specs.View.{view}
use Rattle.cluster_routing.specs.Combine.{all_okay, combine_at, combine_by, items_by_place, part_replies, slots_by, sum_tree}
use Rattle.cluster_routing.specs.Info.{positions_in}
use Rattle.cluster_routing.specs.Parts.{width_of}
use Rattle.cluster_routing.specs.Policies.{or_bad_reply}
use Rattle.cluster_routing.specs.declared.policy.ResponsePolicy.TheVariants.{Aggregate}
use Rattle.cluster_routing.specs.declared.policy.AggregateOp.TheVariants.{Sum}
use Rattle.cluster_routing.proofs.CutInto.{arrays_of_parts, by_policy, part_places, trees_of_parts}
use Rattle.cluster_routing.proofs.combine.parts.combine_parts.Goals as goal

pub returns-in-CombineArrays : goal.returns-in-CombineArrays
returns-in-CombineArrays c =
    record {
      any = λ memory.
          c.combine_and_sort_array_results.ensures memory
          ∙ ap or_bad_reply (
          ap (λ places. items_by_place places (map view c.args.values.items)) (part_places (width_of c.args.pattern) c.args.routes.now)
          ∙ ap (λ policy. combine_at policy (width_of c.args.pattern) (positions_in c.args.routes.now) (map view c.args.values.items)) (sym c.in-CombineArrays.is)
          );
      cut = λ args s order cut_into memory.
          c.combine_and_sort_array_results.ensures memory
          ∙ ap or_bad_reply (
          ap (λ places. items_by_place places (map view c.args.values.items)) (part_places (width_of c.args.pattern) c.args.routes.now)
          ∙ arrays_of_parts c.args.values.items cut_into
          ∙ ap (λ policy. combine_by policy s (part_replies (slots_by order s) (map view c.args.values.items))) (sym c.in-CombineArrays.is)
          ∙ by_policy c.args.values.items cut_into
          );
    }

pub returns-in-Aggregate-Sum : goal.returns-in-Aggregate-Sum
returns-in-Aggregate-Sum c =
    let op : c.in-Aggregate-Sum.field-0 ≡ Sum = rw c.in-Aggregate-Sum.is at c.in-Aggregate-Sum.field-0-is in
    record {
      any = λ memory.
          c.aggregate.ensures
          ∙ ap or_bad_reply (ap (λ policy. combine_at policy (width_of c.args.pattern) (positions_in c.args.routes.now) (map view c.args.values.items)) (sym (c.in-Aggregate-Sum.is ∙ ap (λ o. Aggregate o) op)));
      cut = λ args s order cut_into memory.
          c.aggregate.ensures
          ∙ ap or_bad_reply (
          ap sum_tree (sym (trees_of_parts c.args.values.items cut_into))
          ∙ ap (λ policy. combine_by policy s (part_replies (slots_by order s) (map view c.args.values.items))) (sym (c.in-Aggregate-Sum.is ∙ ap (λ o. Aggregate o) op))
          ∙ by_policy c.args.values.items cut_into
          );
    }

pub returns-in-AllSucceeded : goal.returns-in-AllSucceeded
returns-in-AllSucceeded c =
    record {
      any = λ memory.
          c.all_succeeded.ensures
          ∙ ap or_bad_reply (
          ap (λ values. all_okay (map view values)) c.deref.ensures.value
          ∙ ap (λ policy. combine_at policy (width_of c.args.pattern) (positions_in c.args.routes.now) (map view c.args.values.items)) (sym c.in-AllSucceeded.is)
          );
      cut = λ args s order cut_into memory.
          c.all_succeeded.ensures
          ∙ ap or_bad_reply (
          ap (λ values. all_okay (map view values)) c.deref.ensures.value
          ∙ ap all_okay (sym (trees_of_parts c.args.values.items cut_into))
          ∙ ap (λ policy. combine_by policy s (part_replies (slots_by order s) (map view c.args.values.items))) (sym c.in-AllSucceeded.is)
          ∙ by_policy c.args.values.items cut_into
          );
    }
