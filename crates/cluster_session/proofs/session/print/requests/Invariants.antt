use Rattle.std.proofs.Common.{◌≡◌, ◌++◌, take, string_bytes}
use Rattle.std.specs.List.{flat_map}
use Rattle.cluster_session.specs.PrintedLines.{request_line}
use Rattle.cluster_session.proofs.session.print.requests.Given as goal

abbrev pub invariant-loop-request : goal.invariant-loop-request
invariant-loop-request l =
    string_bytes l.output ≡ string_bytes l.initial.output ++ flat_map request_line (take l.request-index l.asked)
