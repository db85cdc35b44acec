use Rattle.std.proofs.Common.{◌∙◌, ap, sym, Some, None, Err, if◌then◌else◌}
use Rattle.std.proofs.lemmas.List.Folds.{list_all-map}
use Rattle.resp_core.specs.Trees.{okay}
use Rattle.resp_core.specs.View.{view}
use Rattle.cluster_routing.specs.Combine.{is_okay}
use Rattle.cluster_routing.specs.Policies.{or_bad_reply}
use Rattle.cluster_routing.proofs.CutInto.{view-Okay}
use Rattle.cluster_routing.proofs.combine.parts.all_succeeded.Goals as goal

pub returns-then-are_okay : goal.returns-then-are_okay
returns-then-are_okay c = ap (λ t. or_bad_reply (Some t)) view-Okay ∙ ap (λ b. or_bad_reply (if b then Some okay else None)) (sym c.if-are_okay.true ∙ c.are_okay.ensures ∙ sym (list_all-map is_okay view c.args.values.now))

pub returns-else-are_okay : goal.returns-else-are_okay
returns-else-are_okay c = ap (λ e. Err e) c.from.ensures ∙ ap (λ b. or_bad_reply (if b then Some okay else None)) (sym c.if-are_okay.false ∙ c.are_okay.ensures ∙ sym (list_all-map is_okay view c.args.values.now))
