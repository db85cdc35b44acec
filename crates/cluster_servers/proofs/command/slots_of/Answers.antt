use Rattle.std.specs.Prelude.{IfOk, filter_map}
use Rattle.std.proofs.Common.{◌≡◌, ◌∙◌, [], Ok, ap, subst, sym, map}
use Rattle.cluster_routing.specs.Directions.{shown_direction}
use Rattle.cluster_routing.specs.Info.{shown_parts}
use Rattle.cluster_calls.specs.Calls.Parts.{parts_of}
use Rattle.cluster_steps.specs.CodeParts.{part_targets, route_target, targets_in_direction}
use Rattle.cluster_steps.proofs.Directions.{targets_are}
use Rattle.cluster_servers.specs.Slots.{slot_at}
use Rattle.cluster_servers.proofs.SlotTargets.{no_slots_elsewhere, slots_by_targets}
use Rattle.cluster_servers.proofs.command.slots_of.Goals as goal

pub returns-in-Parts : goal.returns-in-Parts
returns-in-Parts c =
    let parts = parts_of [] c.args.command.now 0 in
    let targets = map route_target (shown_parts c.in-Parts.split.routes.items) in
    let told : Ok targets ≡ part_targets parts =
    ap (λ d. targets_in_direction 0 (shown_direction d)) (sym c.in-Parts.is) ∙ ap (targets_in_direction 0) c.requires
    ∙ targets_are c.args.command.now [] 0 (sym c.is_no_response.ensures ∙ c.if-is_no_response.false) in
    let slots = slots_by_targets parts targets told in
    let routes : shown_parts c.deref.result.now ≡ shown_parts c.in-Parts.split.routes.items = ap shown_parts c.deref.ensures.value in
    subst (λ k. IfOk c.slots_at.result (λ slots. slots.items ≡ k)) (ap (λ r. filter_map slot_at (map route_target r)) routes ∙ slots) c.slots_at.ensures

pub returns-in_default : goal.returns-in_default
returns-in_default c =
    let told = ap (targets_in_direction 0) c.requires
    ∙ targets_are c.args.command.now [] 0 (sym c.is_no_response.ensures ∙ c.if-is_no_response.false) in
    c.new-in_default.ensures.items
    ∙ no_slots_elsewhere (parts_of [] c.args.command.now 0) c.args.direction.now c.in_default.not-Slot c.in_default.not-Parts told
