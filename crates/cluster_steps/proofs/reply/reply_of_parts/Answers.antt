use Rattle.std.proofs.Common.{ℕ, List, ◌∙◌, ap, map, sym}
use Rattle.std.proofs.lemmas.List.{length-map}
use Rattle.resp_core.specs.View.{view}
use Rattle.resp_args.specs.Packed.{sent}
use Rattle.cluster_routing.specs.Info.{shown_part, shown_split}
use Rattle.cluster_routing.specs.Policies.{or_bad_reply}
use Rattle.cluster_routing.specs.declared.route.Route.{Route}
use Rattle.cluster_calls.specs.Links.World.{tree_result}
use Rattle.cluster_steps.proofs.PartReplies.{joined_reply, recut, same_tree, whole_reply}
use Rattle.cluster_steps.proofs.reply.reply_of_parts.Goals as goal

pub returns-in-None : goal.returns-in-None
returns-in-None c client picks command order number ds is_plan split count m =
    c.first_reply.ensures ∙ whole_reply client picks command order number ds is_plan (rw c.in-None.is at split) (map view c.args.replies.items) (length-map _ _ ∙ count)

pub returns-in-Some : goal.returns-in-Some
returns-in-Some c client picks command order number ds is_plan split count m =
    let joins = joined_reply client picks command order number ds is_plan (shown_split c.in-Some.split) (rw c.in-Some.is at split) (map view c.args.replies.items) (length-map _ _ ∙ count) in
    let places = ap (λ rs. map (λ (r : Route × List ℕ). r.1) (map shown_part rs)) (sym c.deref.ensures.value) in
    let cut = recut _ _ _ _ _ _ _ _ joins.cut_into places (length-map _ _) in
    same_tree c.combine_parts.result ∙ c.combine_parts.ensures.cut (sent command) joins.split _ cut (λ k. m (ap (tree_result view) k)) ∙ ap or_bad_reply (sym joins.same)
