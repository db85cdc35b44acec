use Rattle.std.proofs.Common.{◌∙◌, Err, sym, ap}
use Rattle.cluster_routing.specs.Directions.{parts_in, shown_direction}
use Rattle.cluster_steps.specs.CodeParts.{targets_in_direction}
use Rattle.cluster_steps.proofs.route.targets_by.Goals as goal

pub returns-in-Slot-clause-split : goal.returns-in-Slot-clause-split
returns-in-Slot-clause-split c = ap (λ d. parts_in (shown_direction d)) (sym c.in-Slot.is)

pub returns-in-AnyNode-clause-split : goal.returns-in-AnyNode-clause-split
returns-in-AnyNode-clause-split c = ap (λ d. parts_in (shown_direction d)) (sym c.in-AnyNode.is)

pub returns-in-Parts-clause-targets : goal.returns-in-Parts-clause-targets
returns-in-Parts-clause-targets c = ap (λ d. targets_in_direction c.args.number (shown_direction d)) (sym c.in-Parts.is)

pub returns-in-Nowhere-clause-targets : goal.returns-in-Nowhere-clause-targets
returns-in-Nowhere-clause-targets c =
    ap (λ e. Err e) c.from.ensures ∙ ap (λ d. targets_in_direction c.args.number (shown_direction d)) (sym c.in-Nowhere.is)
