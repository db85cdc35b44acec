use Rattle.std.proofs.Common.{◌≡◌, ◌+◌, ◌-◌, ◌<◌, ◌≤◌, ◌&&◌, ◌==◌, ℕ, List, true, false, length, get_or, take, drop, refl, sym, ap, subst, ◌∙◌, arith, length-drop}
use Rattle.std.proofs.lemmas.List.{take_rest}
use Rattle.memchr.specs.Find.{NoneBefore}
use Rattle.resp_core.specs.LineEnds.{returned_at}
use Rattle.resp_core.proofs.LineReads.{NoneBelow}
use Rattle.resp_core.proofs.LineSearches.{none_searched, ends_at, was_return, none_next, none_to_feed, feed_at, not_returned, goes_on}
use Rattle.resp_core.proofs.parser.line.line_end.Goals.{In-Some}
use Rattle.resp_core.proofs.parser.line.line_end.Goals as goal

-- the LF that was found is one of the bytes
high : (c : In-Some) → c.in-Some.behind < length c.args.bytes.now - c.feeds.from
high c =
    let hay = take_rest c.args.bytes.now c.feeds.from in
    omega (arith, c.in-Some.ensures.0.high, ap length hay, length-drop c.feeds.from c.args.bytes.now)

-- no line ends before it
none_before : (c : In-Some) → NoneBelow c.args.bytes.now (c.feeds.from + c.in-Some.behind - 1)
none_before c =
    let bs = c.args.bytes.now in
    let from = c.feeds.from in
    let n = c.in-Some.behind in
    none_to_feed bs _ from (take_rest bs from) n (from + n - 1) refl c.feeds.invariant.none c.in-Some.ensures.0.before

pub feeds-init : goal.feeds-init
feeds-init c = record {
  later = omega arith;
  within = c.requires.within;
  none = none_searched c.args.bytes.now c.args.searched c.requires.within c.requires.searched;
  returned = c.requires.returned;
}

pub returns-then-is_after_return-clause-ends : goal.returns-then-is_after_return-clause-ends
returns-then-is_after_return-clause-ends c =
    let bs = c.args.bytes.now in
    let from = c.feeds.from in
    let n = c.in-Some.behind in
    let at = (goal.at.returns-then-is_after_return-clause-ends c).In-Some in
    let high = high at in
    let before = was_return bs (from + n) c.is_after_return.result c.if-is_after_return.true c.is_after_return.ensures in
    let here : (from + n - 1) + 1 ≡ from + n = omega (arith, before.0) in
    ends_at bs (from + n - 1) (none_before at) (omega (arith, before.0)) before.1
    (ap (λ (j : ℕ). get_or bs j 0) here ∙ feed_at bs _ from (take_rest bs from) n c.in-Some.ensures.1)

pub feeds-preserved : goal.feeds-preserved
feeds-preserved c =
    let bs = c.args.bytes.now in
    let from = c.feeds.from in
    let n = c.in-Some.behind in
    let at = (goal.at.feeds-preserved c).In-Some in
    let high = high at in
    record {
      later = omega (arith, c.feeds.invariant.later);
      within = omega arith;
      none = none_next bs (from + n) (from + n + 1 - 1) c.is_after_return.result (omega arith) c.is_after_return.ensures (none_before at) (rw c.if-is_after_return.false refl);
      returned = not_returned bs (from + n) (from + n + 1) refl (feed_at bs _ from (take_rest bs from) n c.in-Some.ensures.1);
    }

pub returns-clause-ends : goal.returns-clause-ends
returns-clause-ends c =
    let bs = c.args.bytes.now in
    let from = c.feeds.from in
    let hay : take (length bs - from) (drop from bs) ≡ drop from bs = take_rest bs from in
    let len : length (take (length bs - from) (drop from bs)) ≡ length bs - from = ap length hay ∙ length-drop from bs in
    let within = c.feeds.invariant.within in
    (goes_on bs (none_to_feed bs _ from hay (length (take (length bs - from) (drop from bs))) (length bs - 1) (omega (arith, len, within)) c.feeds.invariant.none c.in_default.ensures), c.is_after_return-2.ensures)
