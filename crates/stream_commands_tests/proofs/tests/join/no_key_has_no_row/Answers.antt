use Rattle.std.specs.List.{IsDistinct}
use Rattle.stream_commands_tests.proofs.tests.join.no_key_has_no_row.Goals as goal

pub join_read_replies-record-requires-clause-differ : goal.join_read_replies-record-requires-clause-differ
unfolding IsDistinct
join_read_replies-record-requires-clause-differ g c = tt
