use Rattle.std.proofs.Common.{◌≡◌, map, take}
use Rattle.cluster_steps.proofs.asked.copied.Given as goal

abbrev pub invariant-loop-arg : goal.invariant-loop-arg
invariant-loop-arg l = map (λ arg. arg.items) l.copies.items ≡ map (λ arg. arg.items) (take l.arg-index l.args)
