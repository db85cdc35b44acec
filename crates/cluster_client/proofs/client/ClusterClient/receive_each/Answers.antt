use Rattle.std.specs.Vec.Iter.{into_iter_items}
use Rattle.std.proofs.Common.{◌≡◌, ◌∙◌, [], ◌∷◌, sym, arith}
use Rattle.std.proofs.lemmas.Grind.{common_steps}
use Rattle.std.proofs.lemmas.List.{map-append, nil_from_length}
use Rattle.cluster_client.proofs.EachLoop.{each_done, each_more, each_start}
use Rattle.cluster_client.proofs.client.ClusterClient.receive_each.Goals as goal

pub groups-init : goal.groups-init
groups-init g c =
    let all : into_iter_items c.into_iter-group-iterator.result ≡ c.args.sent.items = c.into_iter-group-iterator.ensures.into_iter_gives.0 in
    let none : c.args.answers.now.items ≡ [] = nil_from_length _ (sym c.args.answers.now.ok.0 ∙ c.requires.none) in
    let size = c.args.sent.ok.0 in
    let before = c.requires.none in
    let room = c.requires.room in
    record {
      loop = λ start groups sent. rw (all, none) (each_start start _ groups _ sent);
      within = rw all c.requires.within;
      room = rw all (grind (arith, common_steps));
      count = rw all (grind (arith, common_steps));
    }

pub receive_one-requires : goal.receive_one-requires
receive_one-requires g c =
    let steps : into_iter_items c.groups.group-iterator ≡ c.in-Some.group ∷ into_iter_items c.next.new.self = c.in-Some.ensures.steps.0 in
    record { within = (rw steps at c.groups.invariant.within).0 }

pub groups-preserved : goal.groups-preserved
groups-preserved g c =
    let steps : into_iter_items c.groups.group-iterator ≡ c.in-Some.group ∷ into_iter_items c.next.new.self = c.in-Some.ensures.steps.0 in
    let loop = rw steps at c.groups.invariant.loop in
    let within = rw steps at c.groups.invariant.within in
    let room = rw steps at c.groups.invariant.room in
    let count = rw steps at c.groups.invariant.count in
    record {
      loop = λ start groups sent. rw (c.push.ensures.items, c.unwrap.ensures, map-append) (each_more start _ _ groups c.in-Some.group _ _ _ (loop start groups sent) c.receive_one.ensures.received);
      within = rw c.receive_one.ensures.len within.1;
      room = grind (arith, common_steps);
      count = grind (arith, common_steps);
    }

pub returns-clause-exchanged : goal.returns-clause-exchanged
returns-clause-exchanged g c =
    let none : into_iter_items c.groups.group-iterator ≡ [] = nil_from_length _ (sym c.groups.group-iterator.rest.ok.0 ∙ c.in-None.ensures.steps.0) in
    λ start groups sent. each_done _ _ _ _ ((rw none at c.groups.invariant.loop) start groups sent)
