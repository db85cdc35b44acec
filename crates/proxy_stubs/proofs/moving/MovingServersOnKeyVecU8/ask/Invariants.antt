use Rattle.std.proofs.Common.{◌≡◌, length}
use Rattle.proxy_stubs.proofs.moving.MovingServersOnKeyVecU8.ask.Given as goal

abbrev pub invariant-batch : goal.invariant-batch
invariant-batch l = length l.outcomes.items ≡ l.i
