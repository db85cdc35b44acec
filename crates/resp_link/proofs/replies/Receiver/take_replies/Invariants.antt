use Rattle.std.proofs.Common.{◌≡◌, true, length, map}
use Rattle.resp_core.specs.View.{view}
use Rattle.resp_core.specs.Standing.{is_resting, level_limit}
use Rattle.resp_link.specs.Replies.{ReceiverReads}
use Rattle.resp_link.proofs.replies.Receiver.take_replies.Given as goal

abbrev pub invariant-taking : goal.invariant-taking
invariant-taking g l = record {
  reads : ReceiverReads g.R.LinkRead.unread g.R.LinkRead.counts l.fn.self l.self l.fn.allowed l.allowed (map view l.replies.items);
  count : length l.replies.items ≡ l.i;
  rests : is_resting l.self.parser ≡ true;
  limit : level_limit l.self.parser ≡ level_limit l.fn.self.parser;
}
