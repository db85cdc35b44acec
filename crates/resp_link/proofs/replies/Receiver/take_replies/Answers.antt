use Rattle.std.proofs.Common.{rules, ◌≡◌, ◌∙◌, ◌<◌, [], ◌∷◌, ◌++◌, refl, arith, length, map, ap, length-append}
use Rattle.std.proofs.lemmas.Grind.{common_steps}
use Rattle.std.proofs.lemmas.List.{map-append}
use Rattle.std.proofs.lemmas.Result.{err_from_is_err_and}
use Rattle.resp_core.specs.View.{view}
use Rattle.resp_link.proofs.Taking.{ReadsReplies-none, ReadsReplies-append, ReadsReplies-starved, lacks}
use Rattle.resp_link.proofs.replies.Receiver.take_replies.Goals as goal

pub taking-init : goal.taking-init
taking-init g c =
    let none : c.new-replies.result.items ≡ [] = search rules in
    record { reads = rw none (ReadsReplies-none _ _); count = ap length none; rests = c.requires; limit = refl }

pub returns-in_err-reply-clause-refused : goal.returns-in_err-reply-clause-refused
returns-in_err-reply-clause-refused g c =
    let p = err_from_is_err_and c.from_residual.result c.from_residual.ensures.1 in
    let fewer : length (map view c.taking.replies.items) < c.args.count = grind (arith, common_steps, c.taking.invariant.count) in
    let ends = c.in_err-reply.ensures.refused in
    rw (p.1, p.2) (lacks g.R.LinkRead.unread g.R.LinkRead.counts c.next_reply.new.self.reader _ c.next_reply.new.allowed ends.0 _ c.taking.invariant.reads ends.1 fewer)

pub returns-in_err-push-clause-refused : goal.returns-in_err-push-clause-refused
returns-in_err-push-clause-refused g c =
    let p = err_from_is_err_and c.from_residual-in_err-push.result c.from_residual-in_err-push.ensures.1 in
    let fewer : length (map view c.taking.replies.items) < c.args.count = grind (arith, common_steps, c.taking.invariant.count) in
    let ends = ReadsReplies-starved _ _ c.in_ok-reply.ensures.reply refl in
    rw (p.1, p.2) (lacks g.R.LinkRead.unread g.R.LinkRead.counts c.next_reply.new.self.reader _ c.next_reply.new.allowed ends.0 _ c.taking.invariant.reads ends.1 fewer)

pub taking-preserved : goal.taking-preserved
taking-preserved g c =
    let pushed : c.push.new.self.items ≡ c.taking.replies.items ++ c.in_ok-reply.reply ∷ [] = search rules in
    record {
      reads = rw (pushed, map-append) (ReadsReplies-append c.taking.invariant.reads c.in_ok-reply.ensures.reply);
      count = omega (arith, c.taking.invariant.count, ap length pushed, length-append c.taking.replies.items (c.in_ok-reply.reply ∷ []));
      rests = c.in_ok-reply.ensures.rests;
      limit = c.next_reply.ensures.limit ∙ c.taking.invariant.limit;
    }
