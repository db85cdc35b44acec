use Rattle.std.proofs.Common.{arith}
use Rattle.resp_args.proofs.ReadBack.{unsigned-reads_back}
use Rattle.resp_args.proofs.laws.u32_reads_back.Goals as goal

pub returns : goal.returns
returns c = unsigned-reads_back 32 c.args.value (omega arith) (omega arith)
