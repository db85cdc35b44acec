use Rattle.std.proofs.Common.{◌≡◌, take}
use Rattle.cluster_calls.specs.Links.Request.{bytes_of}
use Rattle.cluster_steps.proofs.ready.bytes_of.Given as goal

abbrev pub invariant-loop-request : goal.invariant-loop-request
invariant-loop-request l = l.bytes.items ≡ bytes_of (take l.request-index l.requests)
