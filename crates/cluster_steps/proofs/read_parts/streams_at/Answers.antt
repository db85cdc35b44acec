use Rattle.std.specs.List.{cons_option}
use Rattle.std.proofs.Common.{◌≡◌, ◌∙◌, ◌++◌, ◌∷◌, ℕ, List, [], take, get_or, append-nil, refl, sym, ap, Bor, Vec}
use Rattle.std.specs.Global.{Global}
use Rattle.std.proofs.lemmas.List.{map-append}
use Rattle.cluster_steps.specs.Reads.{found_at, lent_streams, stream_of, streams_in}
use Rattle.cluster_steps.proofs.ReadStreams.{found_more, found_none, found_one}
use Rattle.cluster_steps.proofs.read_parts.streams_at.Goals as goal
use Rattle.cluster_steps.proofs.read_parts.streams_at.Goals.{in-Some+in_ok-push, in_default}

pub positions-preserved : goal.positions-preserved
positions-preserved c =
    let streams = streams_in c.args.streams.now in
    let so : List ℕ = take c.positions.position-index c.args.positions.now in
    let at : ℕ = get_or c.args.positions.now c.positions.position-index 0 in
    let more = found_more c.args.positions.now c.positions.position-index 0 streams c.positions-test.true in
    elim c.match-get.branch [
      | in-Some+in_ok-push w ↦
          let one = found_one c.args.streams.now at w.in-Some.stream.now w.in-Some.ensures.lookup.3.0 w.in-Some.ensures.lookup.1 in
          let pushed : lent_streams c.match-get.part.items ≡ lent_streams c.positions.part.items ++ stream_of w.in-Some.stream.now ∷ [] = rw (w.part-is, w.in_ok-push.ensures.items, map-append, w.as_slice.ensures.value, w.as_slice-in-Some.ensures.value) refl in
          pushed ∙ ap (λ q. q ++ stream_of w.in-Some.stream.now ∷ []) c.positions.invariant ∙ ap (λ o. found_at so streams ++ cons_option o []) (sym one) ∙ sym more
      | in_default w ↦
          ap (λ (v : Vec (Bor (List ℕ) × Bor (List ℕ)) Global). lent_streams v.items) w.part-is ∙ c.positions.invariant
          ∙ sym (more ∙ ap (λ o. found_at so streams ++ cons_option o []) (found_none c.args.streams.now at w.in_default.ensures.lookup.3) ∙ append-nil (found_at so streams))
    ]
