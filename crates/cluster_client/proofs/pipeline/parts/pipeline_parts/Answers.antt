use Rattle.std.proofs.Common.{◌≡◌, ◌∙◌, ◌∷◌, Some, suc, add-one, drop, map, option_map, sym, ap, subst}
use Rattle.std.proofs.lemmas.List.{map-append}
use Rattle.resp_args.specs.Packed.{sent}
use Rattle.cluster_calls.specs.Calls.Call.{Entry}
use Rattle.cluster_calls.specs.Calls.Parts.{pipeline_parts}
use Rattle.cluster_steps.specs.FirstPlaces.{part_of}
use Rattle.cluster_steps.specs.WholeParts.{whole_by}
use Rattle.cluster_client.proofs.PipeParts.{before, next_entry, parts_more, parts_stop}
use Rattle.cluster_client.proofs.pipeline.parts.pipeline_parts.Goals as goal

pub returns-in_default : goal.returns-in_default
returns-in_default c = λ m.
    let e : Entry = record { command = c.command.inside.command; ignored = c.command.inside.ignored } in
    let all = c.args.commands.now in
    let next = next_entry all c.commands.position c.index-commands-position.result c.commands-test.true c.index-commands-position.is ∙ ap (λ x. x ∷ drop (suc c.commands.position) all) (sym c.command.view_is) in
    rw c.at_position.ensures (parts_stop all c.commands.position e (drop (suc c.commands.position) all) (map part_of c.commands.parts.items)
    (subst (λ es. before (map part_of c.commands.parts.items) (pipeline_parts c.commands.position es) ≡ pipeline_parts 0 all) next c.commands.invariant)
    (sym c.in_ok-route.ensures.route ∙ ap (option_map (whole_by (sent e.command))) c.in_default.is))

pub commands-preserved : goal.commands-preserved
commands-preserved c =
    let e : Entry = record { command = c.command.inside.command; ignored = c.command.inside.ignored } in
    let all = c.args.commands.now in
    let next = next_entry all c.commands.position c.index-commands-position.result c.commands-test.true c.index-commands-position.is ∙ ap (λ x. x ∷ drop (suc c.commands.position) all) (sym c.command.view_is) in
    rw (c.in_ok-push.ensures.items, map-append, add-one) (parts_more all c.commands.position e (drop (suc c.commands.position) all) (map part_of c.commands.parts.items) (part_of c.in_ok-part.part)
    (subst (λ es. before (map part_of c.commands.parts.items) (pipeline_parts c.commands.position es) ≡ pipeline_parts 0 all) next c.commands.invariant)
    (sym c.in_ok-route.ensures.route ∙ ap (option_map (whole_by (sent e.command))) c.in-Some.is ∙ ap (λ part. Some part) (sym c.in_ok-part.ensures)))
