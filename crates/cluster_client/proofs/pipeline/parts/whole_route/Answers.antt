use Rattle.std.proofs.Common.{◌∙◌, [], sym, ap}
use Rattle.resp_args.specs.Packed.{sent}
use Rattle.cluster_calls.specs.Calls.Parts.{if_one_slot, parts_of, whole_part}
use Rattle.cluster_steps.specs.CodeParts.{targets_in}
use Rattle.cluster_steps.proofs.PartTargets.{no_whole, whole_by_targets}
use Rattle.cluster_client.proofs.pipeline.parts.whole_route.Goals as goal

pub returns-in-Ok-clause-route : goal.returns-in-Ok-clause-route
returns-in-Ok-clause-route c =
    let command = c.args.command.now in
    c.primary_route.ensures (sent command) ∙ whole_by_targets (sent command) (targets_in c.in-Ok.targets) (parts_of [] command 0) (c.in-Ok.ensures.targets [] c.in_ok-direction.ensures)
    ∙ ap (λ b. if_one_slot b (whole_part (sent command) (parts_of [] command 0))) (sym c.if-branch.false ∙ c.in_ok-reads_several_slots.ensures)

pub returns-clause-route : goal.returns-clause-route
returns-clause-route c =
    let command = c.args.command.now in
    no_whole (sent command) c.in-Err.field-0 (parts_of [] command 0) (c.in-Err.ensures.targets [] c.in_ok-direction.ensures)
    ∙ ap (λ b. if_one_slot b (whole_part (sent command) (parts_of [] command 0))) (sym c.if-branch.false ∙ c.in_ok-reads_several_slots.ensures)
