use Rattle.std.proofs.Common.{◌≡◌, ◌++◌, take, string_bytes}
use Rattle.std.specs.List.{flat_map}
use Rattle.cluster_calls.specs.Links.World.{nodes}
use Rattle.cluster_session.specs.PrintedRun.{node_line}
use Rattle.cluster_session.proofs.Seen.{link_seen}
use Rattle.cluster_session.proofs.session.play.print_sent.Given as goal

abbrev pub invariant-loop-address : goal.invariant-loop-address
invariant-loop-address l =
    string_bytes l.output ≡ string_bytes l.initial.output ++ flat_map node_line (nodes link_seen (take l.address-index l.links))
