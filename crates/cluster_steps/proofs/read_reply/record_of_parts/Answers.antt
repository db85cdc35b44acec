use Rattle.std.proofs.Common.{◌∙◌, sym, map as each}
use Rattle.std.proofs.lemmas.List.{length-map}
use Rattle.resp_core.specs.View.{view}
use Rattle.stream_commands.specs.ReadReply.{read_reply}
use Rattle.cluster_steps.proofs.JoinedReads.{as_many_read}
use Rattle.cluster_steps.proofs.read_reply.record_of_parts.Goals as goal

pub joined-requires-clause-records : goal.joined-requires-clause-records
joined-requires-clause-records c = sym (length-map c.in_ok-records.records.items _) ∙ as_many_read read_reply (each view c.args.replies.items) _ c.in_ok-records.ensures ∙ length-map c.args.replies.items view ∙ c.requires.replies
