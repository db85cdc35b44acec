use Rattle.std.proofs.Common.{length, ap, arith}
use Rattle.proxy_core.proofs.PlayLemmas.{plays_more}
use Rattle.proxy_core.proofs.proxy.Proxy.play.Goals as goal

pub calls-preserved : goal.calls-preserved
calls-preserved g c = record {
  left = omega (arith, ap length c.in-Some.ensures.items);
  plays = rw (c.push.ensures.items, c.unwrap.ensures, c.in_ok-reserve.ensures.items) (plays_more _ _ _ _ _ _ _ _ _ _ _ _ _ _ _ _ c.calls.invariant.plays c.in-Some.ensures.items c.answer_to-answer.ensures);
}
