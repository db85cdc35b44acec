use Rattle.std.proofs.Common.{◌∙◌, None, map, refl, sym, ap, inl, inr}
use Rattle.std.proofs.lemmas.List.{length-map}
use Rattle.resp_core.specs.View.{view}
use Rattle.cluster_calls.specs.Links.World.{tree_result}
use Rattle.cluster_calls.proofs.LogLaws.Fates.{positions_known}
use Rattle.cluster_client.specs.Whole.{whole}
use Rattle.proxy_core.specs.Batch.{batch_of}
use Rattle.cluster_servers.specs.Asked.{some_redirected}
use Rattle.cluster_servers.specs.Together.{entries_of}
use Rattle.cluster_servers.proofs.Outcomes.{made_are_told}
use Rattle.cluster_servers.proofs.Telling.{alone_length, batch_length, entries_length, told_length}
use Rattle.cluster_servers.proofs.servers.ClusterServersServersGuestCommandReply.ask.Goals as goal
use Rattle.cluster_servers.proofs.servers.ClusterServersServersGuestCommandReply.ask.Goals.{in-Some, in-None}

pub tell_all-requires-clause-each : goal.tell_all-requires-clause-each
tell_all-requires-clause-each g c =
    let seen = g.L.ConnectionLike.seen in
    let made = rw c.in-Some.is at c.in_ok-told.ensures.told in
    made_are_told None (whole seen c.args.self.now.client) (whole seen c.send_together.new.self.client) (entries_of (batch_of c.args.batch.now)) (map (tree_result view) c.in-Some.told.items) made

pub tell_all-requires-clause-len : goal.tell_all-requires-clause-len
tell_all-requires-clause-len g c =
    let seen = g.L.ConnectionLike.seen in
    let made = rw c.in-Some.is at c.in_ok-told.ensures.told in
    let known = positions_known None (whole seen c.args.self.now.client) (whole seen c.send_together.new.self.client) (entries_of (batch_of c.args.batch.now)) (map (tree_result view) c.in-Some.told.items) made 0 in
    c.in-Some.told.ok.0 ∙ sym (length-map c.in-Some.told.items (tree_result view)) ∙ known.whole ∙ entries_length c.args.batch.now

pub returns-clause-one_each : goal.returns-clause-one_each
returns-clause-one_each g c =
    elim c.match-branch-3.branch [
      | in-Some w ↦ rw w.outcomes-is (w.tell_all.new.outcomes.ok.0 ∙ told_length _ _ _ w.tell_all.ensures ∙ batch_length c.args.batch.now)
      | in-None w ↦ rw w.outcomes-is (w.ask_each.new.outcomes.ok.0 ∙ alone_length _ _ _ _ _ w.ask_each.ensures ∙ batch_length c.args.batch.now)
    ]

pub returns-clause-asked : goal.returns-clause-asked
returns-clause-asked g c =
    elim c.match-branch-3.branch [
      | in-Some w ↦ rw (w.self-is, w.outcomes-is) (inr (inl (record {
        before = c.in_ok-told.ensures.together (rw w.in-Some.is refl);
        asked = record {
          told = map (tree_result view) w.in-Some.told.items;
          made = rw w.in-Some.is at c.in_ok-told.ensures.told;
          each = w.tell_all.ensures;
        };
        after = w.some_redirected-self.ensures ∙ ap some_redirected w.deref.ensures.value;
        patient = c.in_ok-told.ensures.patient;
      })))
      | in-None w ↦ rw (w.self-is, w.outcomes-is) (inr (inr (record {
        start = _;
        why = rw w.in-None.is at c.in_ok-told.ensures.told;
        asked = rw c.in_ok-told.ensures.patient at w.ask_each.ensures;
        after = refl;
        patient = c.in_ok-told.ensures.patient;
      })))
    ]
