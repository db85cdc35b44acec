use Rattle.std.proofs.Common.{refl, string_bytes}
use Rattle.resp_args.proofs.Texts.{utf8-text}
use Rattle.resp_args.proofs.laws.string_reads_back.Goals as goal

pub returns : goal.returns
returns c = utf8-text c.args.value.now (string_bytes c.args.value.now) refl
