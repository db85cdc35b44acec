use Rattle.std.proofs.Common.{◌≡◌, ◌++◌, drop, map}
use Rattle.cluster_routing.specs.HashSlot.{hash_slot}
use Rattle.cluster_routing.specs.Info.{lent}
use Rattle.cluster_routing.proofs.keys.slots_of_keys.Given as goal

abbrev pub invariant-keys : goal.invariant-keys
invariant-keys l = map hash_slot (lent l.keys) ≡ l.slots.items ++ map hash_slot (lent (drop l.key-index l.keys))
