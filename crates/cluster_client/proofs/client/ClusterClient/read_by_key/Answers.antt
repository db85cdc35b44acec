use Rattle.std.proofs.Common.{◌≡◌, ◌∙◌, refl, sym, ap, length, map}
use Rattle.std.proofs.lemmas.List.{length-map}
use Rattle.resp_core.specs.View.{view}
use Rattle.stream_commands.specs.Joining.{positions}
use Rattle.stream_commands.specs.RecordViews.{rows_view}
use Rattle.cluster_calls.specs.Calls.Answer.{Read}
use Rattle.cluster_calls.specs.Calls.Task.{stream_keys}
use Rattle.cluster_calls.proofs.LinkLaws.ManyParts.{as_many_replies}
use Rattle.cluster_calls.proofs.LinkLaws.OneCommand.{relogged_untouched}
use Rattle.cluster_steps.specs.Reads.{read_places, streams_in}
use Rattle.cluster_client.specs.Whole.{whole}
use Rattle.cluster_client.proofs.Ending.{record_unpicked, unsent_ended}
use Rattle.cluster_client.proofs.Reading.{count_planned, keys_differ, read_ended, read_stopped}
use Rattle.cluster_client.proofs.client.ClusterClient.read_by_key.Goals.{in-Ok, in-Ok-follow_all, in-Err-follow_all, in-Err}
use Rattle.cluster_client.proofs.client.ClusterClient.read_by_key.Goals as goal

pub record_of_parts-requires-clause-differ : goal.record_of_parts-requires-clause-differ
record_of_parts-requires-clause-differ g c = keys_differ c.args.options.now (stream_keys (streams_in c.args.streams.now)) c.requires.by_key

pub record_of_parts-requires-clause-places : goal.record_of_parts-requires-clause-places
record_of_parts-requires-clause-places g c = rw c.deref.ensures.value c.in-Ok.ensures.places

pub record_of_parts-requires-clause-replies : goal.record_of_parts-requires-clause-replies
record_of_parts-requires-clause-replies g c =
    let told = c.in-Ok.ensures in
    let planned = told.planned (λ k. cc k) in
    let made = rw told.stays at c.in-Ok-follow_all.ensures in
    let many = as_many_replies _ _ _ _ made in
    let sent = count_planned c.args.options.now (streams_in c.args.streams.now) c.requires.by_key c.requires.met _ _ _ _ planned in
    sym (length-map c.in-Ok-follow_all.replies.items view) ∙ many ∙ sent ∙ ap length (sym told.places) ∙ length-map _ _ ∙ ap length (sym c.deref.ensures.value)

pub returns : goal.returns
returns g c =
    let seen = g.L.ConnectionLike.seen in
    let options = c.args.options.now in
    let streams = streams_in c.args.streams.now in
    record_unpicked _ _ (whole seen c.match-prepare_read.self) _ _ (λ reply. Read (rows_view reply.keys.items)) c.match-prepare_read.reply refl
    (elim c.match-prepare_read.branch [
      | in-Ok w ↦
          let told = w.in-Ok.ensures in
          let planned = told.planned (λ k. cc k) in
          elim w.match-follow_all.branch [
            | in-Ok-follow_all v ↦
                let made = rw told.stays at v.in-Ok-follow_all.ensures in
                let places : positions v.deref.result.now ≡ read_places streams = rw v.deref.ensures.value told.places in
                rw (w.self-is, w.reply-is, v.reply-is) (read_ended options streams c.requires.by_key c.requires.met _ _ _ _ _ planned.planned planned.picked (map view v.in-Ok-follow_all.replies.items) _ made (rw places at v.record_of_parts.ensures))
            | in-Err-follow_all v ↦
                let made = rw told.stays at v.in-Err-follow_all.ensures in
                rw (w.self-is, w.reply-is, v.reply-is) (read_stopped options streams c.requires.by_key c.requires.met _ _ _ _ _ planned.planned planned.picked _ made)
          ]
      | in-Err w ↦
          let told = w.in-Err.ensures in
          rw (w.self-is, w.reply-is) (unsent_ended _ _ _ _ _ refl (relogged_untouched _ _ _ told.stays) (λ m. let planned = told.planned (λ k. m (cc k)) in (planned.planned, planned.picked)))
    ])
    c.unpick.ensures.stays c.unpick.ensures.forgotten c.unpick.ensures.kept
