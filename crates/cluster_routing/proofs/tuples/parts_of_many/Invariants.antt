use Rattle.std.proofs.Common.{◌≡◌, map, take}
use Rattle.cluster_routing.specs.Info.{shown_part}
use Rattle.cluster_routing.specs.Parts.{groups}
use Rattle.cluster_routing.specs.Routing.{part_slots, part_to}
use Rattle.cluster_routing.proofs.tuples.parts_of_many.Given as goal

abbrev pub invariant-slots : goal.invariant-slots
invariant-slots l = record {
  seen : l.seen.keys ≡ part_slots (map shown_part l.all.items);
  made : map shown_part l.all.items ≡ map (part_to l.role) (groups (take l.place l.slots));
}
