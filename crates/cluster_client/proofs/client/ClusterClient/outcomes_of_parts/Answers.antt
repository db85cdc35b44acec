use Rattle.std.specs.List.{AllByRecursion}
use Rattle.std.specs.Prelude.{nat_eq}
use Rattle.std.proofs.Common.{◌≡◌, ◌<◌, ◌∙◌, List, map, length, vec_len, refl, sym, ap, subst}
use Rattle.std.proofs.lemmas.List.{length-map}
use Rattle.std.proofs.lemmas.Result.{err_from_is_err_and}
use Rattle.cluster_routing.specs.Lists.{firsts, IsDistinct}
use Rattle.cluster_steps.specs.Groups.{group_of, place_in, request_count}
use Rattle.cluster_steps.specs.GroupRuns.{IsGroupPlaced}
use Rattle.cluster_calls.specs.Links.World.{Node, nodes}
use Rattle.cluster_calls.proofs.ServerLaws.Distinct.{firsts_distinct}
use Rattle.cluster_steps.proofs.PipeGroups.{all_unmapped, groups_placed}
use Rattle.cluster_steps.proofs.RequestCounts.{requests_within}
use Rattle.cluster_client.proofs.EachPiping.{each_made, each_unsent, numbers_within, told_alone}
use Rattle.cluster_client.proofs.Logged.{room_for_fewer}
use Rattle.cluster_client.proofs.Piping.{dispatches_within, group_links}
use Rattle.cluster_client.proofs.client.ClusterClient.outcomes_of_parts.Goals as goal

pub returns-in_err-dispatches : goal.returns-in_err-dispatches
returns-in_err-dispatches g c strategy entries are =
    let p = err_from_is_err_and c.from_residual.result c.from_residual.ensures.1 in
    let told = c.in_err-dispatches.ensures in
    rw (p.1, p.2) (each_unsent strategy _ _ _ _ told.stays (λ m. told.planned (λ k. m (cc k)) strategy entries are))

pub grouped-requires : goal.grouped-requires
grouped-requires g c =
    let all : List Node = nodes g.L.ConnectionLike.seen c.dispatches_of_parts.new.self.links.nodes.items in
    let len : length all ≡ c.len-count.result = length-map _ _ ∙ sym c.dispatches_of_parts.new.self.links.nodes.ok.0 ∙ sym c.len-count.ensures in
    dispatches_within all c.len-count.result _ len c.in_ok-dispatches.ensures.placed

pub send_each-requires-clause-log_room : goal.send_each-requires-clause-log_room
send_each-requires-clause-log_room g c =
    let dispatches = c.in_ok-dispatches.dispatches in
    room_for_fewer _ _ _ _ _ _ c.in_ok-dispatches.ensures.room (ap request_count c.in_ok-groups.ensures.groups) (requests_within dispatches.items) dispatches.ok.0

pub send_each-requires-clause-placed : goal.send_each-requires-clause-placed
send_each-requires-clause-placed g c =
    let all : List Node = nodes g.L.ConnectionLike.seen c.dispatches_of_parts.new.self.links.nodes.items in
    all_unmapped (IsGroupPlaced all) group_of _ (subst (AllByRecursion (IsGroupPlaced all)) (sym c.in_ok-groups.ensures.groups) (groups_placed all _ c.in_ok-dispatches.ensures.placed))

pub send_each-requires-clause-apart : goal.send_each-requires-clause-apart
send_each-requires-clause-apart g c =
    subst (IsDistinct nat_eq) (sym (ap (map (λ h. h.link)) c.in_ok-groups.ensures.groups ∙ group_links c.in_ok-dispatches.dispatches.items)) (firsts_distinct nat_eq (map place_in c.in_ok-dispatches.dispatches.items))

pub tell_each-requires-clause-numbers : goal.tell_each-requires-clause-numbers
tell_each-requires-clause-numbers g c =
    let order = firsts nat_eq (map place_in c.in_ok-dispatches.dispatches.items) in
    let groups = c.in_ok-groups.field-0.groups in
    let size : vec_len c.receive_each.new.answers ≡ length order = c.receive_each.ensures.len ∙ c.send_each.ensures.count ∙ groups.ok.0 ∙ sym (length-map groups.items group_of) ∙ ap length c.in_ok-groups.ensures.groups ∙ length-map order _ in
    subst (λ n. AllByRecursion (λ number. number < n) c.deref.result.now) (sym size)
    (subst (AllByRecursion (λ number. number < length order)) (sym c.deref.ensures.value) (numbers_within order c.in_ok-dispatches.dispatches.items _ c.in_ok-groups.ensures.numbers))

pub returns : goal.returns
returns g c strategy entries are =
    let told = c.in_ok-dispatches.ensures in
    let outcomes = rw (c.in_ok-outcomes.ensures.items, c.deref.ensures.value) at c.tell_each.ensures in
    each_made strategy _ _ _ _ _ _ _ _ _ told.stays (told.planned (λ k. cc k) strategy entries are) told.placed c.in_ok-groups.ensures.groups c.in_ok-groups.ensures.numbers
    (c.receive_each.ensures.exchanged _ _ c.send_each.ensures.sent) (told_alone _ _ _ outcomes refl)
