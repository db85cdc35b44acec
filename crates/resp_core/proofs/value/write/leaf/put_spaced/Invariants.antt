use Rattle.std.proofs.Common.{◌≡◌, ◌++◌, take}
use Rattle.resp_core.specs.Written.{spaced}
use Rattle.resp_core.proofs.value.write.leaf.put_spaced.Given as goal

abbrev pub invariant-bytes : goal.invariant-bytes
invariant-bytes l = l.out.items ≡ l.fn.out.items ++ spaced (take l.byte-index l.bytes)
