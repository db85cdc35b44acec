use Rattle.std.proofs.Common.{◌≡◌, take}
use Rattle.cluster_routing.specs.Info.{lent}
use Rattle.cluster_calls.specs.Calls.Task.{stream_keys}
use Rattle.cluster_steps.specs.Reads.{streams_in}
use Rattle.cluster_steps.proofs.read_parts.keys_of.Given as goal

abbrev pub invariant-streams : goal.invariant-streams
invariant-streams l = lent l.keys.items ≡ stream_keys (streams_in (take l.stream-index l.streams))
