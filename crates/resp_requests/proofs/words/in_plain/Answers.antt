use Rattle.std.proofs.Common.{◌∙◌, sym, arith}
use Rattle.std.proofs.lemmas.Bool.Decides.{nat_tests}
use Rattle.resp_requests.proofs.WordSteps.{plain_end_at, plain_stops_at, plain_byte_at, plain_double_at, plain_single_at}
use Rattle.resp_requests.proofs.words.in_plain.Goals as goal

pub returns-in-empty-clause-goes : goal.returns-in-empty-clause-goes
returns-in-empty-clause-goes c = plain_end_at c.args.bytes.now (omega arith)

pub returns-in-34-clause-goes : goal.returns-in-34-clause-goes
returns-in-34-clause-goes c = plain_double_at c.args.bytes.now (omega arith) (omega arith)

pub returns-in-39-clause-goes : goal.returns-in-39-clause-goes
returns-in-39-clause-goes c = plain_single_at c.args.bytes.now (omega arith) (omega arith)

pub returns-then-ends_word-clause-goes : goal.returns-then-ends_word-clause-goes
returns-then-ends_word-clause-goes c = plain_stops_at c.args.bytes.now (omega arith) (sym c.ends_word.ensures ∙ c.if-ends_word.true)

pub returns-else-ends_word-clause-goes : goal.returns-else-ends_word-clause-goes
returns-else-ends_word-clause-goes c = plain_byte_at c.args.bytes.now (omega arith) (grind (arith, nat_tests)) (grind (arith, nat_tests)) (sym c.ends_word.ensures ∙ c.if-ends_word.false)
