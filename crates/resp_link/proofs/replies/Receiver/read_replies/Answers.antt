use Rattle.std.proofs.Common.{◌∙◌}
use Rattle.std.proofs.lemmas.List.{length-map}
use Rattle.std.proofs.lemmas.Result.{IfOk-weaker, IfErr-weaker}
use Rattle.resp_core.specs.View.{view}
use Rattle.resp_link.proofs.Taking.{ReadsReplies-append, LacksReplies-after}
use Rattle.resp_link.proofs.replies.Receiver.read_replies.Goals as goal

pub returns-clause-taken : goal.returns-clause-taken
returns-clause-taken g c =
    let drops = c.in_ok-drop_replies.ensures.dropped in
    IfOk-weaker c.take_replies.result _ _ (λ replies taken. (
      c.take_replies.new.allowed,
      record {
        dropped = drops.0;
        reads = ReadsReplies-append drops.1 taken.0;
        dropped_count = drops.2;
        taken_count = length-map replies.items view ∙ taken.1;
      },
    )) c.take_replies.ensures.taken

pub returns-clause-refused : goal.returns-clause-refused
returns-clause-refused g c =
    let drops = c.in_ok-drop_replies.ensures.dropped in
    IfErr-weaker c.take_replies.result _ _ (λ e lacks. LacksReplies-after _ _ _ _ e drops.1 drops.2 lacks) c.take_replies.ensures.refused
