use Rattle.std.specs.Prelude.{bytes_eq}
use Rattle.std.specs.List.{IsDistinct}
use Rattle.std.proofs.Common.{arith, ◌≡◌, ◌∙◌, ◌∷◌, [], List, length, map as each, sym, ap, subst}
use Rattle.std.proofs.lemmas.List.{length-map}
use Rattle.resp_args.specs.Convert.{Answers}
use Rattle.cluster_routing.specs.Info.{lent}
use Rattle.stream_commands.specs.Join.{join, share}
use Rattle.stream_commands.specs.Joining.{positions}
use Rattle.stream_commands.specs.ReadReply.{Row}
use Rattle.stream_commands.specs.RecordViews.{rows_view}
use Rattle.cluster_calls.specs.Calls.Task.{stream_keys}
use Rattle.cluster_steps.specs.Reads.{joined_at, read_places, streams_in}
use Rattle.cluster_steps.proofs.DistinctKeys.{differ}
use Rattle.cluster_steps.proofs.JoinedReads.{one_alone, only_record, several_records}
use Rattle.cluster_steps.proofs.ReadStreams.{places_shared}
use Rattle.cluster_steps.proofs.read_reply.joined.Goals as goal

pub returns-then-len-eq1 : goal.returns-then-len-eq1
returns-then-len-eq1 c =
    let streams = streams_in c.args.streams.now in
    let one : length c.args.records.items ≡ 1 = omega arith in
    let alone = one_alone c.args.records.items c.remove.result one c.remove.ensures.value in
    let count : 1 ≡ length (read_places streams) = sym one ∙ c.requires.records ∙ sym (length-map c.args.places.now _) ∙ ap length c.requires.places in
    ap (λ rs. joined_at (stream_keys streams) (positions c.args.places.now) (each (λ r. rows_view r.keys.items) rs)) alone
    ∙ ap (λ ps. joined_at (stream_keys streams) ps (rows_view c.remove.result.keys.items ∷ [])) c.requires.places
    ∙ only_record streams (rows_view c.remove.result.keys.items) count

pub join_read_replies-requires-clause-differ : goal.join_read_replies-requires-clause-differ
join_read_replies-requires-clause-differ c =
    let keys : lent c.deref.result.now ≡ stream_keys (streams_in c.args.streams.now) = rw c.deref.ensures.value c.in_ok-keys.ensures in
    subst (λ ks. IsDistinct bytes_eq ks) (sym keys) (differ (stream_keys (streams_in c.args.streams.now)) c.requires.differ)

pub join_read_replies-requires-clause-once : goal.join_read_replies-requires-clause-once
join_read_replies-requires-clause-once c =
    let keys : lent c.deref.result.now ≡ stream_keys (streams_in c.args.streams.now) = rw c.deref.ensures.value c.in_ok-keys.ensures in
    let count : length c.deref.result.now ≡ length (stream_keys (streams_in c.args.streams.now)) = sym (length-map c.deref.result.now _) ∙ ap length keys in
    ap (λ ps. share ps (length c.deref.result.now)) c.requires.places ∙ ap (share (read_places (streams_in c.args.streams.now))) count ∙ places_shared (streams_in c.args.streams.now)

pub returns : goal.returns
returns c =
    let streams = streams_in c.args.streams.now in
    let records : List (List Row) = each (λ r. rows_view r.keys.items) c.args.records.items in
    let keys : lent c.deref.result.now ≡ stream_keys streams = rw c.deref.ensures.value c.in_ok-keys.ensures in
    let more = several_records streams records (λ e. let one : length c.args.records.items ≡ 1 = sym (length-map c.args.records.items _) ∙ e in omega (arith, c.args.records.ok.0)) (length-map c.args.records.items _ ∙ c.requires.records ∙ sym (length-map c.args.places.now _) ∙ ap length c.requires.places) in
    let same : join (lent c.deref.result.now) (positions c.args.places.now) records ≡ joined_at (stream_keys streams) (positions c.args.places.now) records =
    ap (λ ks. join ks (positions c.args.places.now) records) keys ∙ ap (λ ps. join (stream_keys streams) ps records) c.requires.places ∙ sym more ∙ ap (λ ps. joined_at (stream_keys streams) ps records) (sym c.requires.places)
    in
    subst (λ o. Answers (λ r. rows_view r.keys.items) o c.join_read_replies.result) same c.join_read_replies.ensures
