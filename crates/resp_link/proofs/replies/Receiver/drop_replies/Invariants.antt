use Rattle.std.proofs.Common.{◌≡◌, true, List, length}
use Rattle.resp_core.specs.Trees.{Tree}
use Rattle.resp_core.specs.Standing.{is_resting, level_limit}
use Rattle.resp_link.specs.Replies.{ReceiverReads}
use Rattle.resp_link.proofs.replies.Receiver.drop_replies.Given as goal

abbrev pub invariant-dropping : goal.invariant-dropping
invariant-dropping g l = record {
  dropped : List Tree;
  reads : ReceiverReads g.R.LinkRead.unread g.R.LinkRead.counts l.fn.self l.self l.fn.allowed l.allowed dropped;
  count : length dropped ≡ l.i;
  rests : is_resting l.self.parser ≡ true;
  limit : level_limit l.self.parser ≡ level_limit l.fn.self.parser;
}
