use Rattle.std.proofs.Common.{◌∙◌, List, ap}
use Rattle.resp_args.specs.Packed.{sent}
use Rattle.cluster_calls.specs.Calls.Call.{Stream}
use Rattle.cluster_calls.specs.Calls.Parts.{at_slot, part_to}
use Rattle.cluster_steps.specs.Reads.{found_at, streams_in}
use Rattle.cluster_steps.proofs.ReadStreams.{read_lent}
use Rattle.cluster_steps.proofs.read_parts.read_part.Goals as goal

pub returns : goal.returns
returns c =
    let found : List Stream = found_at c.args.positions.now (streams_in c.args.streams.now) in
    let command = rw c.deref.ensures.value at c.in_ok-command.ensures in
    let args = c.in_ok-wire_args.ensures in
    ap (λ q. part_to q (at_slot c.args.route)) (args ∙ ap sent command ∙ read_lent c.args.options.now c.in_ok-part.part.items found c.in_ok-part.ensures)
