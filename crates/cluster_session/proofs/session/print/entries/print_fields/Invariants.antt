use Rattle.std.proofs.Common.{◌≡◌, ◌++◌, string_bytes, map as each}
use Rattle.std.specs.List.{flat_map}
use Rattle.resp_core.specs.View.{view}
use Rattle.stream_commands.specs.RecordViews.{fields_view}
use Rattle.cluster_session.specs.Printed.{field_words}
use Rattle.cluster_session.proofs.session.print.entries.print_fields.Given as goal

abbrev pub invariant-loop-name : goal.invariant-loop-name
invariant-loop-name l =
    string_bytes l.output ++ flat_map field_words (each (λ f. (string_bytes f.0, view f.1)) l.name-iterator)
    ≡ string_bytes l.initial.output ++ flat_map field_words (fields_view l.fields)
