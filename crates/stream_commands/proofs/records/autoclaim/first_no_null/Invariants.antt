use Rattle.std.proofs.Common.{◌≡◌, drop}
use Rattle.std.proofs.Common.{map as each}
use Rattle.resp_core.specs.View.{view}
use Rattle.stream_commands.specs.AutoClaim.{first_no_null}
use Rattle.stream_commands.proofs.records.autoclaim.first_no_null.Given as goal

abbrev pub invariant-loop-item : goal.invariant-loop-item
invariant-loop-item l = first_no_null (each view l.items) ≡ first_no_null (each view (drop l.item-index l.items))
