use Rattle.std.proofs.Common.{◌≡◌, ◌++◌, string_bytes}
use Rattle.std.proofs.Common.{map as each}
use Rattle.resp_core.specs.View.{view}
use Rattle.stream_commands.specs.RecordViews.{fields_view}
use Rattle.stream_commands.proofs.records.fields.copy_pairs.Given as goal

abbrev pub invariant-loop-name : goal.invariant-loop-name
invariant-loop-name l = each (λ f. (string_bytes f.0, view f.1)) l.pairs.items ++ each (λ f. (string_bytes f.0, view f.1)) l.name-iterator ≡ fields_view l.fn.fields
