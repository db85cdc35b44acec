use Rattle.std.proofs.Common.{refl, arith}
use Rattle.std.proofs.lemmas.Bool.Decides.{nat_tests}
use Rattle.resp_requests.proofs.WordSteps.{double_end_at, double_byte_at}
use Rattle.resp_requests.proofs.words.in_double.Goals as goal

pub returns-in-empty : goal.returns-in-empty
returns-in-empty c = (refl, double_end_at c.args.bytes.now (omega arith))

pub returns-in-len1-up : goal.returns-in-len1-up
returns-in-len1-up c = double_byte_at c.args.bytes.now (omega arith) (grind (arith, nat_tests)) (grind (arith, nat_tests))
