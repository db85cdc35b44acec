use Rattle.std.proofs.Common.{◌≡◌, ◌++◌, map}
use Rattle.resp_args.specs.Packed.{wire}
use Rattle.resp_args.proofs.wire.wire.Given as goal

abbrev pub invariant-loop-arg : goal.invariant-loop-arg
invariant-loop-arg l = map (λ a. a.items) l.all.items ++ wire l.cursor l.arg-iterator ≡ wire l.cursor l.fn.args
