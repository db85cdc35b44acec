use Rattle.std.proofs.Common.{arith, refl, w64}
use Rattle.resp_args.proofs.ReadBack.{signed-reads_back}
use Rattle.resp_args.proofs.laws.isize_reads_back.Goals as goal

pub returns : goal.returns
returns c = signed-reads_back w64 64 c.args.value refl c.ranges.value (omega (arith, c.ranges.value.sfits))
