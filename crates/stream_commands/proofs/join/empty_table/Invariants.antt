use Rattle.std.proofs.Common.{◌≡◌, map as each, None}
use Rattle.stream_commands.specs.Join.{positions_below}
use Rattle.stream_commands.proofs.join.empty_table.Given as goal

abbrev pub invariant-places : goal.invariant-places
invariant-places l = l.table.items ≡ each (λ _. None) (positions_below l.place)
