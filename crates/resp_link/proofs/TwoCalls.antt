-- a call in two is one call
use Rattle.std.proofs.Common.{◌≡◌, ℕ, List, Option, Ok, Err, refl, sym, subst, ◌∙◌, arith}
use Rattle.std.proofs.lemmas.Bool.{false≢true}
use Rattle.resp_core.specs.Trees.{Tree}
use Rattle.resp_core.specs.Errors.{Refusal}
use Rattle.resp_link.specs.Call.{Seen, Answers, ReadFails, Fails, closed, sending, receiving, at_start, at_end}
use Rattle.resp_link.specs.Sending.{SentAll}
use Rattle.resp_link.specs.Replies.{TakesReplies, LacksReplies}
use Rattle.resp_link.specs.TwoCalls as two
use Rattle.resp_link.specs.TwoCalls.{ComesToOwe, TakesOwed, LacksOwed, SendRefused, ReceiveRefused, TwoCallsAreOne, RefusedSendsAreRefusedCalls}

same_start : {old mid : Seen} {bytes : List ℕ} → ComesToOwe old mid bytes → at_start mid ≡ at_start old
same_start p = rw p.unread (rw p.held (rw p.counts (rw p.limit refl)))

sent_by : {old mid new : Seen} {bytes : List ℕ} → ComesToOwe old mid bytes → two.StaysSent mid new → SentAll old.sent new.sent old.write_counts new.write_counts bytes
sent_by p q = rw q.sent (rw q.write_counts p.sent)

pub answers_in_two : {old mid new : Seen} {bytes : List ℕ} {offset count : ℕ} {replies : List Tree} → ComesToOwe old mid bytes → TakesOwed mid new offset count replies
    → Answers old new bytes offset count replies
answers_in_two {old} {mid} {new} {bytes} {offset} {count} {replies} p q = record {
  was_open = p.was_open;
  usable = q.usable;
  owes = q.owes;
  flushed = q.writes.flushed ∙ p.flushed;
  sent = sent_by p q.writes;
  allowed = q.allowed;
  takes = subst (λ start. TakesReplies start (at_end new q.allowed) old.pushes new.pushes offset count replies) (same_start p)
      (subst (λ pushes. TakesReplies (at_start mid) (at_end new q.allowed) pushes new.pushes offset count replies) p.pushes q.takes);
}

lacks_in_two : {old mid new : Seen} {bytes : List ℕ} {wanted : ℕ} {refusal : Refusal} → ComesToOwe old mid bytes → LacksOwed mid new wanted refusal → ReadFails old new bytes wanted refusal
lacks_in_two {old} {mid} {new} {bytes} {wanted} {refusal} p q = record {
  was_open = p.was_open;
  closed = q.closed;
  owes = q.owes;
  flushed = q.writes.flushed ∙ p.flushed;
  sent = sent_by p q.writes;
  limit = q.limit ∙ p.limit;
  lacks = subst (λ start. LacksReplies start new.unread new.counts old.pushes new.pushes wanted refusal) (same_start p)
      (subst (λ pushes. LacksReplies (at_start mid) new.unread new.counts pushes new.pushes wanted refusal) p.pushes q.lacks);
}

pub fails_in_two : {old mid new : Seen} {bytes : List ℕ} {wanted : ℕ} {refusal : Refusal} → ComesToOwe old mid bytes → ReceiveRefused mid new wanted refusal
    → Fails old new bytes wanted refusal
fails_in_two p (two.nothing_owed none same is) = absurd (false≢true (sym none ∙ p.owes))
fails_in_two p (two.receiving lacks) = receiving (lacks_in_two p lacks)

pub refused_sends_are_refused_calls : RefusedSendsAreRefusedCalls
refused_sends_are_refused_calls old new bytes wanted refusal (two.closed was same is) = closed was same is
refused_sends_are_refused_calls old new bytes wanted refusal (two.sending fails is) = sending fails is

pub two_calls_are_one : TwoCallsAreOne
two_calls_are_one old mid new bytes count (Ok replies) p q = answers_in_two p q
two_calls_are_one old mid new bytes count (Err refusal) p q = subst (λ n. Fails old new bytes n refusal) (omega arith) (fails_in_two p q)
