use Rattle.std.proofs.Common.{◌≡◌, ◌++◌, map}
use Rattle.cluster_steps.specs.Groups.{gathered_of, group_of}
use Rattle.cluster_steps.proofs.grouped.packed.Given as goal

abbrev pub invariant-gathered : goal.invariant-gathered
invariant-gathered l = record {
  split : l.fn.all.items ≡ l.yielded ++ l.gathered-iterator.rest.items;
  made : map group_of l.groups.items ≡ map gathered_of l.yielded;
}
