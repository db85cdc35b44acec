use Rattle.std.proofs.Common.{ap}
use Rattle.resp_args.proofs.Texts.{utf8-text, utf8-refused}
use Rattle.resp_args.proofs.from.scalars.text_of_bytes.Goals as goal

pub returns-in-Ok : goal.returns-in-Ok
returns-in-Ok c = utf8-text c.in-Ok.text c.args.bytes.items (ap (λ v. v.items) c.in-Ok.ensures.ok)

pub returns : goal.returns
returns c = rw c.fixed.ensures (utf8-refused c.args.bytes.items (λ h. let bad = c.in-Err.ensures.succeeds h in cc))
