use Rattle.std.proofs.Common.{◌≡◌, length}
use Rattle.proxy_core_tests.proofs.tests.moving.MovingServersOnKeyReply.ask.Given as goal

abbrev pub invariant-batch : goal.invariant-batch
invariant-batch l = length l.outcomes.items ≡ l.i
