use Rattle.std.proofs.Common.{◌≡◌, ◌++◌, option_map}
use Rattle.std.specs.Vec.Iter.{into_iter_items}
use Rattle.cluster_routing.specs.Info.{texts}
use Rattle.cluster_client.specs.Shown.{streams_in}
use Rattle.cluster_session.specs.Lines.{streams_of}
use Rattle.cluster_session.proofs.session.lines.paired.Given as goal

abbrev pub invariant-loop-key : goal.invariant-loop-key
invariant-loop-key l =
    option_map (λ later. streams_in l.streams.items ++ later) (streams_of (texts (into_iter_items l.key-iterator)) (texts (into_iter_items l.ids)))
    ≡ streams_of (texts l.fn.keys.items) (texts l.fn.ids.items)
