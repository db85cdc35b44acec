use Rattle.std.proofs.Common.{refl}
use Rattle.resp_args.proofs.Numerals.{utf8-known}
use Rattle.resp_args.proofs.Texts.{utf8-refused}
use Rattle.resp_args.proofs.from.numbers.count_in_bytes.Goals as goal

pub returns-in-Ok : goal.returns-in-Ok
returns-in-Ok g c = rw (utf8-known c.args.bytes.now c.in-Ok.ensures.cases.1, ← c.in-Ok.ensures.cases.0) c.from_text.ensures

pub returns-in-Err : goal.returns-in-Err
returns-in-Err g c = rw (utf8-refused c.args.bytes.now c.in-Err.ensures.cases.0) refl
