use Rattle.std.proofs.Common.{refl}
use Rattle.resp_args.specs.Packed.{wire_arg}
use Rattle.resp_args.specs.Left.{shown}
use Rattle.resp_args.proofs.Packings.{Packing-next}
use Rattle.resp_args.proofs.packing.pack_all.Goals as goal

pub loop-arg-preserved : goal.loop-arg-preserved
loop-arg-preserved c = Packing-next c.in-Some.arg c.next.new.self (wire_arg c.args.cursor (shown c.in-Some.arg)) c.pack_one.new.out.items c.loop-arg.invariant c.in-Some.ensures.steps refl c.in_ok-pack_one.ensures
