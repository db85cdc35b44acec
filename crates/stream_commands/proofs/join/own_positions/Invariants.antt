use Rattle.std.specs.Prelude.{nat_eq}
use Rattle.std.proofs.Common.{◌≡◌, [], take}
use Rattle.indexmap.specs.IndexSet.{insert_all}
use Rattle.stream_commands.proofs.join.own_positions.Given as goal

abbrev pub invariant-part : goal.invariant-part
invariant-part l = l.own.keys ≡ insert_all nat_eq [] (take l.position-index l.part)
