use Rattle.std.proofs.Common.{◌<◌, ◌∙◌, [], ◌∷◌, ◌++◌, refl, arith, length, length-append}
use Rattle.std.proofs.lemmas.Result.{err_from_is_err_and}
use Rattle.resp_core.specs.View.{view}
use Rattle.resp_link.proofs.Taking.{ReadsReplies-none, ReadsReplies-append, lacks}
use Rattle.resp_link.proofs.replies.Receiver.drop_replies.Goals as goal

pub dropping-init : goal.dropping-init
dropping-init g c = record { dropped = []; reads = ReadsReplies-none _ _; count = refl; rests = c.requires; limit = refl }

pub returns-in_err-next_reply-clause-refused : goal.returns-in_err-next_reply-clause-refused
returns-in_err-next_reply-clause-refused g c =
    let p = err_from_is_err_and c.from_residual.result c.from_residual.ensures.1 in
    let fewer : length c.dropping.invariant.dropped < c.args.offset = omega (arith, c.dropping.invariant.count) in
    let ends = c.in_err-next_reply.ensures.refused in
    rw (p.1, p.2) (lacks g.R.LinkRead.unread g.R.LinkRead.counts c.next_reply.new.self.reader _ c.next_reply.new.allowed ends.0 _ c.dropping.invariant.reads ends.1 fewer)

pub dropping-preserved : goal.dropping-preserved
dropping-preserved g c = record {
  dropped = c.dropping.invariant.dropped ++ view c.in_ok-next_reply.field-0 ∷ [];
  reads = ReadsReplies-append c.dropping.invariant.reads c.in_ok-next_reply.ensures.reply;
  count = omega (arith, c.dropping.invariant.count, length-append c.dropping.invariant.dropped (view c.in_ok-next_reply.field-0 ∷ []));
  rests = c.in_ok-next_reply.ensures.rests;
  limit = c.next_reply.ensures.limit ∙ c.dropping.invariant.limit;
}

pub returns-clause-dropped : goal.returns-clause-dropped
returns-clause-dropped g c = (c.dropping.invariant.dropped, c.dropping.invariant.reads, omega (arith, c.dropping.invariant.count))
