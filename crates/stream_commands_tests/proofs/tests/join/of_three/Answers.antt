use Rattle.std.proofs.Common.{refl}
use Rattle.std.specs.List.{IsDistinct}
use Rattle.stream_commands_tests.proofs.tests.join.of_three.Goals as goal

pub join_read_replies-requires-clause-differ : goal.join_read_replies-requires-clause-differ
unfolding IsDistinct
join_read_replies-requires-clause-differ c = ((refl, (refl, tt)), ((refl, tt), (tt, tt)))
