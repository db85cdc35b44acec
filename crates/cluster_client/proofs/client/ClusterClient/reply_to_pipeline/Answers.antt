use Rattle.std.specs.List.{AllByRecursion}
use Rattle.std.specs.Prelude.{nat_eq}
use Rattle.std.proofs.Common.{◌≡◌, ◌<◌, ◌∙◌, List, Some, map, length, refl, sym, ap, subst, Err}
use Rattle.std.proofs.lemmas.List.{length-map}
use Rattle.std.proofs.lemmas.Result.{err_from_is_err_and}
use Rattle.resp_core.specs.View.{view}
use Rattle.cluster_routing.specs.Lists.{firsts}
use Rattle.cluster_routing.specs.Seen.{addresses}
use Rattle.cluster_steps.specs.Groups.{group_of, place_in, request_count}
use Rattle.cluster_steps.specs.GroupRuns.{IsGroupPlaced, answered_at}
use Rattle.cluster_calls.specs.Links.PipeReplies.{pipeline_result}
use Rattle.cluster_calls.specs.Links.World.{Node, World, nodes, tree_result}
use Rattle.cluster_calls.proofs.LinkLaws.OneCommand.{not_begun, not_sent, relogged_untouched}
use Rattle.cluster_calls.proofs.ServerLaws.Distinct.{firsts_distinct}
use Rattle.cluster_steps.proofs.PipeGroups.{all_unmapped, groups_placed, map_twice}
use Rattle.cluster_steps.proofs.RequestCounts.{requests_within}
use Rattle.cluster_client.proofs.DrawnNumbers.{replies_are}
use Rattle.cluster_client.proofs.EachPiping.{numbers_within}
use Rattle.cluster_client.proofs.Ending.{planned_with}
use Rattle.cluster_client.proofs.Logged.{room_for_fewer}
use Rattle.cluster_client.proofs.PipeParts.{pipeline_unplanned}
use Rattle.cluster_client.proofs.Piping.{answered_links, dispatches_within, reply_made}
use Rattle.cluster_client.proofs.client.ClusterClient.reply_to_pipeline.Goals as goal

pub returns-in_err-parts : goal.returns-in_err-parts
returns-in_err-parts g c strategy =
    let p = err_from_is_err_and c.from_residual.result c.from_residual.ensures.1 in
    let picked = ap addresses c.begin.ensures.picked in
    rw (p.1, p.2) (not_sent strategy _ _ _ _ refl (record { nodes = refl; log = c.begin.ensures.asked; entries = refl; settings = refl; flag = refl }) picked
    (λ m. planned_with strategy _ _ _ _ _ picked (pipeline_unplanned strategy _ _ _ _ (sym (c.in_err-parts.ensures (λ k. m (cc k)))) refl)))

pub returns-in_err-dispatches : goal.returns-in_err-dispatches
returns-in_err-dispatches g c strategy =
    let p = err_from_is_err_and c.from_residual-in_err-dispatches.result c.from_residual-in_err-dispatches.ensures.1 in
    let told = c.in_err-dispatches.ensures in
    let picked = ap (λ (w : World). w.picked) told.stays in
    rw (p.1, p.2) (not_sent strategy _ _ _ _ refl (relogged_untouched _ _ _ told.stays) picked
    (λ m. planned_with strategy _ _ _ _ _ picked (told.planned (λ k. m (cc k)) strategy c.args.commands.now (sym (c.in_ok-parts.ensures (λ k. cc k))))))

pub grouped-requires : goal.grouped-requires
grouped-requires g c =
    let all : List Node = nodes g.L.ConnectionLike.seen c.dispatches_of_parts.new.self.links.nodes.items in
    let len : length all ≡ c.len.result = length-map _ _ ∙ sym c.dispatches_of_parts.new.self.links.nodes.ok.0 ∙ sym c.len.ensures in
    dispatches_within all c.len.result _ len c.in_ok-dispatches.ensures.placed

pub returns-in_err-groups : goal.returns-in_err-groups
returns-in_err-groups g c strategy =
    let p = err_from_is_err_and c.from_residual-in_err-groups.result c.from_residual-in_err-groups.ensures.1 in
    rw (p.1, p.2) (not_begun strategy _ _ _ (relogged_untouched _ _ _ c.in_ok-dispatches.ensures.stays) (ap (λ (w : World). w.picked) c.in_ok-dispatches.ensures.stays))

pub exchange_all-requires-clause-room : goal.exchange_all-requires-clause-room
exchange_all-requires-clause-room g c =
    let dispatches = c.in_ok-dispatches.dispatches in
    room_for_fewer _ _ _ _ _ _ c.in_ok-dispatches.ensures.room
    (ap request_count c.in_ok-groups.ensures.groups) (requests_within dispatches.items) dispatches.ok.0

pub exchange_all-requires-clause-placed : goal.exchange_all-requires-clause-placed
exchange_all-requires-clause-placed g c =
    let all : List Node = nodes g.L.ConnectionLike.seen c.dispatches_of_parts.new.self.links.nodes.items in
    all_unmapped (IsGroupPlaced all) group_of _
    (subst (AllByRecursion (IsGroupPlaced all)) (sym c.in_ok-groups.ensures.groups) (groups_placed all _ c.in_ok-dispatches.ensures.placed))

pub returns-in_err-answered : goal.returns-in_err-answered
returns-in_err-answered g c strategy =
    let p = err_from_is_err_and c.from_residual-in_err-answered.result c.from_residual-in_err-answered.ensures.1 in
    let told = c.in_ok-dispatches.ensures in
    let planned = told.planned (λ k. cc k) strategy c.args.commands.now (sym (c.in_ok-parts.ensures (λ k. cc k))) in
    rw (p.1, p.2) (reply_made strategy _ _ _ _ _ _ _ (Err c.in_err-answered.field-0.0) told.stays planned told.placed c.in_ok-groups.ensures.groups c.in_err-answered.ensures refl)

pub drawn-requires : goal.drawn-requires
drawn-requires g c =
    let dispatches = c.in_ok-dispatches.dispatches.items in
    let order = firsts nat_eq (map place_in dispatches) in
    let answered = c.in_ok-answered.answered in
    let links = answered_links dispatches _ _ _ _ c.in_ok-groups.ensures.groups c.in_ok-answered.ensures in
    let size : answered.len ≡ length order = answered.ok.0 ∙ sym (length-map answered.items (answered_at view)) ∙ sym (length-map _ _) ∙ ap length links in
    subst (λ n. AllByRecursion (λ number. number < n) c.deref.result.now) (sym size)
    (subst (AllByRecursion (λ number. number < length order)) (sym c.deref.ensures.value) (numbers_within order dispatches _ c.in_ok-groups.ensures.numbers))

pub returns-in_err-replies : goal.returns-in_err-replies
returns-in_err-replies g c strategy =
    let p = err_from_is_err_and c.from_residual-in_err-replies.result c.from_residual-in_err-replies.ensures.1 in
    let told = c.in_ok-dispatches.ensures in
    let planned = told.planned (λ k. cc k) strategy c.args.commands.now (sym (c.in_ok-parts.ensures (λ k. cc k))) in
    rw (p.1, p.2) (reply_made strategy _ _ _ _ _ _ _ (Err _) told.stays planned told.placed c.in_ok-groups.ensures.groups c.in_ok-answered.ensures (λ had. absurd (had refl)))

pub returns : goal.returns
returns g c strategy =
    let dispatches = c.in_ok-dispatches.dispatches.items in
    let told = c.in_ok-dispatches.ensures in
    let planned = told.planned (λ k. cc k) strategy c.args.commands.now (sym (c.in_ok-parts.ensures (λ k. cc k))) in
    let links = answered_links dispatches _ _ _ _ c.in_ok-groups.ensures.groups c.in_ok-answered.ensures in
    let numbers = rw c.deref.ensures.value at c.in_ok-replies.ensures in
    let same = replies_are view (firsts nat_eq (map place_in dispatches)) _ (map place_in dispatches) c.in_ok-answered.answered.items _ (firsts_distinct nat_eq (map place_in dispatches)) links
    (c.in_ok-groups.ensures.numbers ∙ sym (map_twice place_in (λ k. Some k) dispatches)) numbers in
    reply_made strategy _ _ _ _ _ _ _ (tree_result view c.reply_of_pipeline.result) told.stays planned told.placed c.in_ok-groups.ensures.groups c.in_ok-answered.ensures
    (λ had. c.reply_of_pipeline.ensures (λ k. had (ap (tree_result view) k)) ∙ ap (pipeline_result c.args.commands.now) same)
