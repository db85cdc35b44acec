use Rattle.std.proofs.Common.{◌∙◌, refl, sym, arith}
use Rattle.std.proofs.lemmas.Bool.Decides.{nat_tests}
use Rattle.resp_requests.proofs.WordSteps.{single_end_at, single_byte_at, single_escaped_at}
use Rattle.resp_requests.proofs.words.in_single.Goals as goal

pub returns-in-empty : goal.returns-in-empty
returns-in-empty c = (refl, single_end_at c.args.bytes.now (omega arith))

pub returns-in-len1-up : goal.returns-in-len1-up
returns-in-len1-up c = single_byte_at c.args.bytes.now (omega arith) (grind (arith, nat_tests)) (sym c.is_escaped_quote.ensures ∙ c.if-is_escaped_quote.false)

pub returns-then-is_escaped_quote : goal.returns-then-is_escaped_quote
returns-then-is_escaped_quote c = single_escaped_at c.args.bytes.now (sym c.is_escaped_quote.ensures ∙ c.if-is_escaped_quote.true)
