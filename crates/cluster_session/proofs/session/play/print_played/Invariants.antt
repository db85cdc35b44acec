use Rattle.std.proofs.Common.{◌≡◌, ◌++◌, map, take, string_bytes}
use Rattle.std.specs.List.{flat_map}
use Rattle.cluster_client.specs.Shown.{shown}
use Rattle.cluster_session.specs.PrintedRun.{call_lines}
use Rattle.cluster_session.proofs.session.play.print_played.Given as goal

abbrev pub invariant-loop-call : goal.invariant-loop-call
invariant-loop-call l =
    string_bytes l.output ≡ string_bytes l.initial.output ++ flat_map call_lines (map shown (take l.call-index l.played))
