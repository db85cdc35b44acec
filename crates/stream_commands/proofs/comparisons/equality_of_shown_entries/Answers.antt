use Rattle.std.proofs.Common.{◌∙◌, sym}
use Rattle.stream_commands.proofs.EqualEntries.{entries_tell}
use Rattle.stream_commands.proofs.comparisons.equality_of_shown_entries.Goals as goal

pub returns : goal.returns
returns c = let tells = entries_tell c.args.a.now c.args.b.now in (λ h. tells.0 (sym c.eq.ensures ∙ h), λ e. c.eq.ensures ∙ tells.1 e)
