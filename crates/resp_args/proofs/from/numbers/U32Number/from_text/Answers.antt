use Rattle.std.proofs.Common.{ap, ◌∙◌, pos}
use Rattle.std.specs.Option.{option_map}
use Rattle.resp_args.proofs.Numerals.{unsigned_text-ok}
use Rattle.resp_args.proofs.from.numbers.U32Number.from_text.Goals as goal

pub returns : goal.returns
returns c = ap (option_map pos) c.ok.ensures.value ∙ unsigned_text-ok 32 c.args.text.now c.parse.result c.parse.ensures.value.0
