use Rattle.std.specs.Prelude.{◌&&◌, ◌||◌}
use Rattle.std.proofs.Common.{◌∙◌, ap}
use Rattle.cluster_routing.specs.Command.{is_one_of}
use Rattle.cluster_routing.specs.Routing.{name_of}
use Rattle.cluster_calls.specs.Calls.OneSlot.{outside_names, read_names}
use Rattle.cluster_client.proofs.Transacting.{outside_named}
use Rattle.cluster_client.proofs.transaction.slot.is_outside.Goals as goal

pub returns-in-Some : goal.returns-in-Some
returns-in-Some c =
    let name = rw c.in-Some.is at c.in_ok-name.ensures in
    let args = c.args.command.now.args in
    c.names_outside.ensures
    ∙ ap (λ n. is_one_of outside_names n || (is_one_of read_names n && c.names_block-blocks.result)) c.deref.ensures.value
    ∙ ap (λ b. is_one_of outside_names c.in-Some.name.items || (is_one_of read_names c.in-Some.name.items && b)) c.names_block-blocks.ensures
    ∙ outside_named (name_of args) c.in-Some.name.items args name
