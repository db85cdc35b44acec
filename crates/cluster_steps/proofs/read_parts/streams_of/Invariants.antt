use Rattle.std.proofs.Common.{◌≡◌, take}
use Rattle.cluster_calls.specs.Links.Typed.{streams_by}
use Rattle.cluster_steps.specs.Reads.{streams_in}
use Rattle.cluster_steps.proofs.read_parts.streams_of.Given as goal

abbrev pub invariant-streams : goal.invariant-streams
invariant-streams g l = streams_in l.all.items ≡ streams_by g.K.ToSingleRedisArg.arg g.I.ToSingleRedisArg.arg (take l.stream-index l.streams)
