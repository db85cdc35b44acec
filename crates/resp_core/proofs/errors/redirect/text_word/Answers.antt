use Rattle.std.proofs.Common.{ap, Some, length, refl}
use Rattle.std.specs.Str.{is_utf8}
use Rattle.std.proofs.lemmas.Bool.{false_from_ne_true, ne_eqb}
use Rattle.std.proofs.lemmas.Str.{is_utf8-from_IsUtf8, IsUtf8-from_is_utf8}
use Rattle.resp_core.proofs.errors.redirect.text_word.Goals as goal

pub returns-in-Ok : goal.returns-in-Ok
returns-in-Ok c = rw (ne_eqb (length c.args.word.now) 0 c.if-word-eq0.false, is_utf8-from_IsUtf8 c.args.word.now c.in-Ok.ensures.cases.1) (ap (λ text. Some text) c.in-Ok.ensures.cases.0)

pub returns-in-Err : goal.returns-in-Err
returns-in-Err c = rw (ne_eqb (length c.args.word.now) 0 c.if-word-eq0.false, false_from_ne_true (is_utf8 c.args.word.now) (λ e. c.in-Err.ensures.cases.0 (IsUtf8-from_is_utf8 _ e))) refl
