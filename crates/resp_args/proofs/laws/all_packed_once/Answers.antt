use Rattle.resp_args.proofs.PackedOnce.{all_packed-once}
use Rattle.resp_args.proofs.laws.all_packed_once.Goals as goal

pub returns : goal.returns
returns c = all_packed-once
