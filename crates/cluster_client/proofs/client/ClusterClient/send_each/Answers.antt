use Rattle.std.specs.List.{AllByRecursion}
use Rattle.std.specs.Vec.Iter.{into_iter_items}
use Rattle.std.proofs.Common.{◌≡◌, ◌<◌, ◌∙◌, [], ◌∷◌, length, refl, sym, ap, subst, arith}
use Rattle.std.proofs.lemmas.Grind.{common_steps}
use Rattle.std.proofs.lemmas.List.{length-append, length-map, nil_from_length}
use Rattle.cluster_steps.specs.Groups.{group_of}
use Rattle.cluster_steps.proofs.PipeGroups.{all_mapped}
use Rattle.cluster_client.proofs.EachLoop.{all_last, send_done, send_more, send_start, sums}
use Rattle.cluster_client.proofs.Logged.{room_behind}
use Rattle.cluster_client.proofs.client.ClusterClient.send_each.Goals as goal

pub groups-init : goal.groups-init
groups-init g c =
    let all : into_iter_items c.into_iter-group-iterator.result ≡ c.args.groups.items = c.into_iter-group-iterator.ensures.into_iter_gives.0 in
    let none : c.args.sent.now.items ≡ [] = nil_from_length _ (sym c.args.sent.now.ok.0 ∙ c.requires.none) in
    let size = c.args.groups.ok.0 in
    let before = c.requires.none in
    let room = c.requires.room in
    record {
      loop = rw (all, none) (send_start _ _);
      placed = rw all c.requires.placed;
      links = refl;
      log_room = rw all c.requires.log_room;
      room = rw all (grind (arith, common_steps));
      count = rw all (grind (arith, common_steps));
      within = rw none tt;
    }

pub groups-preserved : goal.groups-preserved
groups-preserved g c =
    let steps : into_iter_items c.groups.group-iterator ≡ c.in-Some.group ∷ into_iter_items c.next.new.self = c.in-Some.ensures.steps.0 in
    let placed = rw steps at c.groups.invariant.placed in
    let loop = rw steps at c.groups.invariant.loop in
    let log_room = rw steps at c.groups.invariant.log_room in
    let room = rw steps at c.groups.invariant.room in
    let count = rw steps at c.groups.invariant.count in
    let more = sums _ _ _ _ _ _ c.send_group.new.log.ok.0 c.groups.self.asked.ok.0 c.in-Some.group.requests.ok.0 (ap length c.send_group.ensures.log ∙ length-append _ _) in
    let within : c.in-Some.group.link < length c.args.self.now.links.nodes.items = rw length-map at placed.0.within in
    record {
      loop = rw (c.push.ensures.items, c.unwrap.ensures) (send_more _ _ _ _ (group_of c.in-Some.group) _ _ _ loop c.send_group.ensures.sent c.send_group.ensures.log refl refl refl refl);
      placed = placed.1;
      links = c.send_group.ensures.len ∙ c.groups.invariant.links;
      log_room = room_behind _ _ _ _ _ _ _ log_room c.in-Some.group.requests.ok.0 more c.send_group.ensures.log_capacity;
      room = grind (arith, common_steps);
      count = grind (arith, common_steps);
      within = rw (c.push.ensures.items, c.unwrap.ensures) (all_last _ _ _ c.groups.invariant.within (rw (c.send_group.ensures.sent.link, c.args.self.now.links.nodes.ok.0) within));
    }

pub returns-clause-sent : goal.returns-clause-sent
returns-clause-sent g c =
    let none : into_iter_items c.groups.group-iterator ≡ [] = nil_from_length _ (sym c.groups.group-iterator.rest.ok.0 ∙ c.in-None.ensures.steps.0) in
    send_done _ _ _ _ (rw none at c.groups.invariant.loop) (all_mapped _ group_of _ c.requires.placed) c.requires.apart

pub returns-clause-within : goal.returns-clause-within
returns-clause-within g c = subst (λ n. AllByRecursion (λ s. s.link < n) c.groups.sent.items) (sym c.groups.invariant.links) c.groups.invariant.within
