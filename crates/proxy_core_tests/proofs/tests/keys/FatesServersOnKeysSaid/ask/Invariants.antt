use Rattle.std.proofs.Common.{◌≡◌, length}
use Rattle.proxy_core_tests.proofs.tests.keys.FatesServersOnKeysSaid.ask.Given as goal

abbrev pub invariant-batch : goal.invariant-batch
invariant-batch l = length l.outcomes.items ≡ l.i
