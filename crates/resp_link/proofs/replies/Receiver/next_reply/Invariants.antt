use Rattle.std.proofs.Common.{◌≡◌, true, ◌+◌, ◌*◌, length}
use Rattle.resp_core.specs.Standing.{is_resting, waiting, level_limit}
use Rattle.resp_link.specs.Replies.{end_of, pushes_of}
use Rattle.resp_link.proofs.Taking.{ReadsPushes}
use Rattle.resp_link.proofs.replies.Receiver.next_reply.Given as goal

abbrev pub invariant-loop-value : goal.invariant-loop-value
invariant-loop-value g l = record {
  reads : ReadsPushes (end_of g.R.LinkRead.unread g.R.LinkRead.counts l.initial.self l.initial.allowed)
      (end_of g.R.LinkRead.unread g.R.LinkRead.counts l.self l.allowed) (pushes_of l.initial.self) (pushes_of l.self);
  rests : is_resting l.self.parser ≡ true;
  limit : level_limit l.self.parser ≡ level_limit l.initial.self.parser;
}

abbrev pub decreases-loop-value : goal.decreases-loop-value
decreases-loop-value g l = l.allowed * 4096 + length (waiting l.self.parser)
