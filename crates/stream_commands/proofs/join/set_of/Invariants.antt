use Rattle.std.proofs.Common.{◌≡◌, take}
use Rattle.stream_commands.specs.Join.{lent_keys}
use Rattle.stream_commands.proofs.join.set_of.Given as goal

abbrev pub invariant-keys : goal.invariant-keys
invariant-keys l = lent_keys l.set.keys ≡ take l.key-index (lent_keys l.keys)
