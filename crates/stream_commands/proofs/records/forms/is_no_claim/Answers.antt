use Rattle.std.proofs.Common.{rules, not, nat_eq, ap, ◌∙◌}
use Rattle.std.proofs.Common.{map as each}
use Rattle.std.proofs.lemmas.List.{length-map}
use Rattle.resp_core.specs.View.{view}
use Rattle.resp_args.proofs.Trees.{items-trees_of, view-Array}
use Rattle.stream_commands.proofs.Forms.{not-four}
use Rattle.stream_commands.proofs.records.forms.is_no_claim.Goals as goal

pub returns-in-Array : goal.returns-in-Array
returns-in-Array c = λ h. rw (c.in-Array.is, view-Array c.in-Array.parts, items-trees_of (each view c.in-Array.parts.items)) (not-four (each view c.in-Array.parts.items) (ap (λ n. not (nat_eq n 4)) (search (rules, length-map)) ∙ h))
