use Rattle.std.proofs.Common.{◌≡◌, ◌++◌, map, take}
use Rattle.resp_args.specs.Packed.{packed_args}
use Rattle.resp_args.proofs.packing.pack_each.Given as goal

abbrev pub invariant-loop-arg : goal.invariant-loop-arg
invariant-loop-arg l = l.out.items ≡ l.fn.out.items ++ packed_args (map (λ a. a.items) (take l.arg-index l.args))
