use Rattle.resp_args.proofs.Packings.{Packing}
use Rattle.resp_args.proofs.packing.pack_all.Given as goal

abbrev pub invariant-loop-arg : goal.invariant-loop-arg
invariant-loop-arg l = Packing l.cursor l.fn.args l.yielded l.arg-iterator l.fn.out.items l.out.items
