use Rattle.std.proofs.Common.{ap, ◌∙◌, refl, w32}
use Rattle.std.specs.Option.{option_map}
use Rattle.resp_args.proofs.Numerals.{signed_text-ok}
use Rattle.resp_args.proofs.from.numbers.I32Number.from_text.Goals as goal

pub returns : goal.returns
returns c = ap (option_map (λ z. z)) c.ok.ensures.value ∙ signed_text-ok w32 32 c.args.text.now c.parse.result refl c.parse.ensures.value.0
