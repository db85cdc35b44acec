use Rattle.std.proofs.Common.{refl}
use Rattle.resp_args.proofs.Numerals.{utf8-known}
use Rattle.stream_commands.proofs.records.forms.is_utf8.Goals as goal

pub returns-in-Ok : goal.returns-in-Ok
returns-in-Ok c = λ _. rw (utf8-known c.args.bytes.now c.in-Ok.ensures.cases.1) refl
