use Rattle.std.proofs.Common.{arith, refl, w16}
use Rattle.resp_args.proofs.ReadBack.{signed-reads_back}
use Rattle.resp_args.proofs.laws.i16_reads_back.Goals as goal

pub returns : goal.returns
returns c = signed-reads_back w16 16 c.args.value refl c.ranges.value (omega (arith, c.ranges.value.sfits))
