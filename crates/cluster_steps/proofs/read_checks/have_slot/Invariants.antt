use Rattle.std.proofs.Common.{◌≡◌, nat_eq, drop}
use Rattle.std.specs.List.{list_all}
use Rattle.cluster_routing.specs.HashSlot.{hash_slot}
use Rattle.cluster_steps.proofs.read_checks.have_slot.Given as goal

abbrev pub invariant-keys : goal.invariant-keys
invariant-keys l = list_all (λ k. nat_eq l.slot (hash_slot k.now)) l.fn.keys ≡ list_all (λ k. nat_eq l.slot (hash_slot k.now)) (drop l.key-index l.fn.keys)
