use Rattle.std.proofs.Common.{◌≡◌, take}
use Rattle.cluster_steps.specs.Reads.{found_at, lent_streams, streams_in}
use Rattle.cluster_steps.proofs.read_parts.streams_at.Given as goal

abbrev pub invariant-positions : goal.invariant-positions
invariant-positions l = lent_streams l.part.items ≡ found_at (take l.position-index l.positions) (streams_in l.streams)
