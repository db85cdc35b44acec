use Rattle.std.proofs.Common.{[], refl, arith}
use Rattle.std.proofs.lemmas.Result.{IfOk-weaker, IfErr-weaker}
use Rattle.resp_link.proofs.Taking.{ReadsReplies-none, lacks}
use Rattle.resp_link.proofs.replies.Receiver.read_reply.Goals as goal

pub returns-clause-taken : goal.returns-clause-taken
returns-clause-taken g c = IfOk-weaker c.next_reply.result _ _ (λ reply reads. (
  c.next_reply.new.allowed,
  record { dropped = []; reads = reads; dropped_count = refl; taken_count = refl },
)) c.next_reply.ensures.reply

pub returns-clause-refused : goal.returns-clause-refused
returns-clause-refused g c = IfErr-weaker c.next_reply.result _ _
    (λ e ends. lacks g.R.LinkRead.unread g.R.LinkRead.counts c.next_reply.new.self.reader _ c.next_reply.new.allowed ends.0 _ (ReadsReplies-none _ _) ends.1 (omega arith))
    c.next_reply.ensures.refused
