use Rattle.std.proofs.Common.{◌≡◌, ◌<◌, ◌+◌, ◌∙◌, [], ◌∷◌, length, arith, ap, sym}
use Rattle.std.specs.Vec.Iter.{into_iter_items}
use Rattle.std.proofs.lemmas.List.{length-map, map-append, nil_from_length}
use Rattle.std.proofs.lemmas.Grind.{common_steps}
use Rattle.std.proofs.lemmas.Result.{err_from_is_err_and}
use Rattle.cluster_steps.specs.Groups.{group_of}
use Rattle.cluster_client.proofs.GroupLoop.{groups_done, groups_failed, groups_more, groups_start, groups_unsent, still_grouped}
use Rattle.cluster_client.proofs.Logged.{first_room, grown_by, room_behind}
use Rattle.cluster_client.proofs.client.ClusterClient.exchange_all.Goals as goal

pub returns-in_err-answered : goal.returns-in_err-answered
returns-in_err-answered g c =
    let p = err_from_is_err_and c.from_residual.result c.from_residual.ensures.1 in
    rw (p.1, p.2) (groups_unsent _ _)

pub groups-init : goal.groups-init
groups-init g c =
    let all : into_iter_items c.into_iter-group-iterator.result ≡ c.args.groups.items = c.into_iter-group-iterator.ensures.into_iter_gives.0 in
    record {
      loop = rw (all, c.in_ok-answered.ensures.items) (groups_start _ _);
      placed = rw all c.requires.placed;
      room = rw all (grind (arith, common_steps));
      log_room = rw all c.requires.room;
    }

pub exchange_group-requires-clause-within : goal.exchange_group-requires-clause-within
exchange_group-requires-clause-within g c =
    let steps : into_iter_items c.groups.group-iterator ≡ c.in-Some.group ∷ into_iter_items c.next.new.self = c.in-Some.ensures.steps.0 in
    let placed = rw steps at c.groups.invariant.placed in
    let at = still_grouped c.groups.invariant.loop _ placed.0 in
    let within : c.in-Some.group.link < length c.groups.self.links.nodes.items = rw length-map at at.within in
    rw c.groups.self.links.nodes.ok.0 within

pub exchange_group-requires-clause-room : goal.exchange_group-requires-clause-room
exchange_group-requires-clause-room g c =
    let steps : into_iter_items c.groups.group-iterator ≡ c.in-Some.group ∷ into_iter_items c.next.new.self = c.in-Some.ensures.steps.0 in
    let room = rw steps at c.groups.invariant.log_room in
    first_room _ _ _ _ _ room c.in-Some.group.requests.ok.0

pub returns-in_err-replies : goal.returns-in_err-replies
returns-in_err-replies g c =
    let p = err_from_is_err_and c.from_residual-in_err-replies.result c.from_residual-in_err-replies.ensures.1 in
    let steps : into_iter_items c.groups.group-iterator ≡ c.in-Some.group ∷ into_iter_items c.next.new.self = c.in-Some.ensures.steps.0 in
    let placed = rw steps at c.groups.invariant.placed in
    let loop = rw steps at c.groups.invariant.loop in
    rw (p.1, p.2) (groups_failed _ _ _ _ (group_of c.in-Some.group) _ _ loop (still_grouped loop _ placed.0) _ c.in_err-replies.ensures.exchanged
    (grown_by _ _ _ _ _ c.groups.self.asked.ok.0 c.exchange_group.new.self.asked.ok.0 (c.in_err-replies.ensures.log_len ∙ ap (λ n. c.groups.self.asked.len + n) c.in-Some.group.requests.ok.0)))

pub returns : goal.returns
returns g c =
    let none : into_iter_items c.groups.group-iterator ≡ [] = nil_from_length _ (sym c.groups.group-iterator.rest.ok.0 ∙ c.in-None.ensures.steps.0) in
    groups_done _ _ _ _ (rw none at c.groups.invariant.loop)

pub groups-preserved : goal.groups-preserved
groups-preserved g c =
    let steps : into_iter_items c.groups.group-iterator ≡ c.in-Some.group ∷ into_iter_items c.next.new.self = c.in-Some.ensures.steps.0 in
    let placed = rw steps at c.groups.invariant.placed in
    let loop = rw steps at c.groups.invariant.loop in
    let room = rw steps at c.groups.invariant.log_room in
    record {
      loop = rw (c.push.ensures.items, c.unwrap.ensures, map-append, c.from-items.ensures.0) (groups_more _ _ _ _ (group_of c.in-Some.group) _ _ loop (still_grouped loop _ placed.0) _ c.in_ok-replies.ensures.exchanged);
      placed = placed.1;
      room = grind (arith, common_steps);
      log_room = room_behind _ _ _ _ _ _ _ room c.in-Some.group.requests.ok.0 c.in_ok-replies.ensures.log_len c.in_ok-replies.ensures.log_capacity;
    }
