use Rattle.std.proofs.Common.{◌≡◌, ◌++◌}
use Rattle.cluster_routing.specs.SlotMap.{put_all}
use Rattle.cluster_routing.proofs.slot_map.put_each.Given as goal

abbrev pub invariant-ranges-2 : goal.invariant-ranges-2
invariant-ranges-2 l = record {
  split : l.fn.slots.items ≡ l.yielded ++ l.range-iterator.rest.items;
  puts : l.map ≡ put_all l.fn.map l.yielded;
}
