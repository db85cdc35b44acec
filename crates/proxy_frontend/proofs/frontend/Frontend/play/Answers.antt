use Rattle.std.proofs.Common.{length, ap, arith}
use Rattle.proxy_core.proofs.PlayLemmas.{plays_none, plays_more}
use Rattle.proxy_frontend.proofs.Running.{played}
use Rattle.proxy_frontend.proofs.frontend.Frontend.play.Goals as goal

pub calls-init : goal.calls-init
calls-init g c =
    record { left = omega arith; plays = played _ _ _ _ _ _ _ _ _ _ _ _ (plays_none _ _ _ c.args.calls.now.items c.args.answers.now.items c.args.self.now c.args.servers.now) }

pub calls-preserved : goal.calls-preserved
calls-preserved g c = record {
  left = omega (arith, ap length c.in-Some.ensures.items);
  plays = rw (c.push.ensures.items, c.unwrap.ensures, c.in_ok-reserve.ensures.items) (played _ _ _ _ _ _ _ _ _ _ _ _ (plays_more _ _ _ _ _ _ _ _ _ _ _ _ _ _ _ _ c.calls.invariant.plays.plays c.in-Some.ensures.items c.answer_to-answer.ensures));
}
