use Rattle.std.proofs.Common.{◌≡◌, ◌-◌, ◌+◌, ◌++◌, ◌∷◌, suc, [], take, drop, refl, sym, ap, ◌∙◌, arith}
use Rattle.std.proofs.lemmas.Grind.{common_steps}
use Rattle.cluster_steps.proofs.Joining.{front_moved}
use Rattle.cluster_steps.proofs.join.move_front.Goals as goal

pub moved-preserved : goal.moved-preserved
moved-preserved c =
    let k = c.args.count - (c.moved.moved + 1) in
    let n : c.args.count - c.moved.moved ≡ suc k = omega (arith, c.moved-test.true) in
    let front : c.moved.queue.items ≡ c.unwrap.result ∷ c.pop_front.new.self.items = cc in
    let pushed : c.push.new.self.items ≡ c.moved.outcomes.items ++ c.unwrap.result ∷ [] = rw (c.push.ensures.items, c.unwrap-in-moved.ensures) refl in
    let moved = front_moved k c.moved.outcomes.items c.moved.queue.items c.pop_front.new.self.items c.unwrap.result front in
    record {
      room = grind (arith, common_steps);
      there = grind (arith, common_steps);
      outcomes = ap (λ os. os ++ take k c.pop_front.new.self.items) pushed ∙ sym moved.0 ∙ ap (λ m. c.moved.outcomes.items ++ take m c.moved.queue.items) (sym n) ∙ c.moved.invariant.outcomes;
      queue = sym moved.1 ∙ ap (λ m. drop m c.moved.queue.items) (sym n) ∙ c.moved.invariant.queue;
    }
