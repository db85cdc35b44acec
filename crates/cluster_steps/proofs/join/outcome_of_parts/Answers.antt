use Rattle.std.proofs.Common.{◌≡◌, ◌++◌, [], true, List, map, length, ℕ, refl, sym, ap, ◌∙◌}
use Rattle.std.proofs.lemmas.List.{length-map}
use Rattle.resp_core.specs.View.{view}
use Rattle.cluster_routing.specs.Combine.{combine, part_replies}
use Rattle.cluster_routing.specs.Info.{shown_part, shown_split}
use Rattle.cluster_routing.specs.Policies.{or_bad_reply}
use Rattle.cluster_routing.specs.Split.{part_slots}
use Rattle.cluster_routing.specs.declared.route.Route.{Route}
use Rattle.cluster_calls.specs.Calls.Each.{reply_in}
use Rattle.cluster_calls.specs.Calls.EachInParts.{are_of_one_fate}
use Rattle.cluster_calls.specs.Links.World.{tree_result}
use Rattle.cluster_steps.proofs.Joining.{joined_replies}
use Rattle.cluster_steps.proofs.PartReplies.{all_slots, cut_whole, recut, same_tree}
use Rattle.cluster_steps.proofs.join.outcome_of_parts.Goals as goal

pub returns : goal.returns
returns c =
    let told = map (tree_result view) c.args.outcomes.items in
    let values = c.take_replies.new.replies.items in
    let one : are_of_one_fate told ≡ true = cc in
    let replies : map view values ≡ map reply_in told = c.in-None.ensures.replies ∙ ap (λ vs. map view vs ++ map reply_in told) c.requires.none in
    let places = ap (λ rs. map (λ (r : Route × List ℕ). r.1) (map shown_part rs)) (sym c.deref-in-None.ensures.value) in
    joined_replies (shown_split c.args.split) told _ one c.in-None.ensures.refused
    (λ args s split same count m.
    let len : length values ≡ length (part_slots s.tuples) = sym (length-map values view) ∙ ap length replies ∙ length-map told reply_in ∙ count in
    same_tree _ ∙ c.combine_parts.ensures.cut args s _ (recut _ _ _ _ _ _ _ _ (cut_whole args s (shown_split c.args.split) [] (length values) split same len) places refl) (λ k. m (ap (tree_result view) k))
    ∙ ap (λ slots. or_bad_reply (combine s (part_replies slots (map view values)))) (all_slots s)
    ∙ ap (λ ts. or_bad_reply (combine s (part_replies (part_slots s.tuples) ts))) replies)
