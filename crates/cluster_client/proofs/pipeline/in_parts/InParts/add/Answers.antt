use Rattle.std.specs.Prelude.{option_map}
use Rattle.std.proofs.Common.{◌∙◌, ◌≡◌, [], None, false, refl, ap, sym}
use Rattle.resp_args.specs.Packed.{sent}
use Rattle.cluster_routing.specs.Info.{shown_split}
use Rattle.cluster_routing.proofs.DirectionViews.{own_splitting}
use Rattle.cluster_calls.specs.Calls.InParts.{split_at}
use Rattle.cluster_calls.specs.Calls.Parts.{if_one_slot, parts_of, reads_several_slots, whole_part}
use Rattle.cluster_steps.specs.CodeParts.{split_in, targets_in}
use Rattle.cluster_steps.specs.WholeParts.{whole_by}
use Rattle.cluster_steps.proofs.PartTargets.{refused_targets, whole_by_targets}
use Rattle.cluster_client.specs.InParts.{entry, places_of}
use Rattle.cluster_client.proofs.InParts.{goes_as, none_split, several_is, split_by_targets, unparted}
use Rattle.cluster_client.proofs.pipeline.in_parts.InParts.add.Goals.{then-not-branch+in_default, else-not-branch}
use Rattle.cluster_client.proofs.pipeline.in_parts.InParts.add.Goals as goal

pub returns-in-Err-clause-refused : goal.returns-in-Err-clause-refused
returns-in-Err-clause-refused c m =
    let e = entry c.args.command.now false in
    let told = refused_targets (parts_of [] e.command 0) c.in-Err.field-0 (c.in-Err.ensures.targets [] c.requires) in
    (goes_as e None false (none_split e c.in-Err.field-0 told) (unparted (reads_several_slots e.command.args) (sent e.command) (parts_of [] e.command 0) c.in-Err.field-0 told) refl, c.at_position.ensures)

pub add_whole-requires : goal.add_whole-requires
add_whole-requires c =
    let command = c.args.command.now in
    sym (ap (option_map (whole_by (sent command))) c.in-Some.is) ∙ c.primary_route.ensures (sent command)
    ∙ whole_by_targets (sent command) (targets_in c.in-Ok.targets) (parts_of [] command 0) (c.in-Ok.ensures.targets [] c.requires)
    ∙ ap (λ b. if_one_slot b (whole_part (sent command) (parts_of [] command 0))) (sym c.if-not-branch.true ∙ c.in_ok-reads_several_slots.ensures)

pub returns-in_default-several_slots-clause-refused : goal.returns-in_default-several_slots-clause-refused
returns-in_default-several_slots-clause-refused c m =
    let e = entry c.args.command.now false in
    let targets = c.in-Ok.ensures.targets [] c.requires in
    let split : None ≡ places_of (split_at e) = sym (ap (option_map shown_split) c.in_default-several_slots.is) ∙ c.several_slots.ensures
    ∙ split_by_targets e (targets_in c.in-Ok.targets) (option_map shown_split (split_in c.in-Ok.targets)) targets (c.in-Ok.ensures.split [] c.requires) in
    let whole = whole_part (sent e.command) (parts_of [] e.command 0) in
    let part : None ≡ if_one_slot c.in_ok-reads_several_slots.field-0 whole = elim c.if-not-branch.branch [
      | then-not-branch+in_default w ↦ sym (ap (option_map (whole_by (sent e.command))) w.in_default.is) ∙ w.primary_route.ensures (sent e.command)
          ∙ whole_by_targets (sent e.command) (targets_in c.in-Ok.targets) (parts_of [] e.command 0) targets ∙ ap (λ b. if_one_slot b whole) (sym w.if-not-branch.true)
      | else-not-branch w ↦ ap (λ b. if_one_slot b whole) (sym w.if-not-branch.false)
    ] in
    (goes_as e None false split (part ∙ ap (λ b. if_one_slot b whole) c.in_ok-reads_several_slots.ensures) refl, c.at_position-in_default-several_slots.ensures)

pub add_parts-requires-clause-own : goal.add_parts-requires-clause-own
add_parts-requires-clause-own c =
    let some = several_is (targets_in c.in-Ok.targets) (option_map shown_split (split_in c.in-Ok.targets)) (shown_split c.in-Some-several_slots.split)
    (sym (ap (option_map shown_split) c.in-Some-several_slots.is) ∙ c.several_slots.ensures) in
    own_splitting [] c.args.command.now.args (shown_split c.in-Some-several_slots.split) (some ∙ c.in-Ok.ensures.split [] c.requires)

pub add_parts-requires-clause-split : goal.add_parts-requires-clause-split
add_parts-requires-clause-split c =
    sym (ap (option_map shown_split) c.in-Some-several_slots.is) ∙ c.several_slots.ensures
    ∙ split_by_targets (entry c.args.command.now false) (targets_in c.in-Ok.targets) (option_map shown_split (split_in c.in-Ok.targets)) (c.in-Ok.ensures.targets [] c.requires) (c.in-Ok.ensures.split [] c.requires)
