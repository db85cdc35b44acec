use Rattle.resp_args.proofs.PackedOnce.{packed-once}
use Rattle.resp_args.proofs.laws.packed_once.Goals as goal

pub returns : goal.returns
returns c = packed-once
