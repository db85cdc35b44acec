use Rattle.std.proofs.Common.{◌≡◌, ◌++◌, take, codes, string_bytes}
use Rattle.std.specs.List.{flat_map}
use Rattle.stream_commands.specs.RecordViews.{entries_view}
use Rattle.cluster_session.specs.Printed.{entry_words}
use Rattle.cluster_session.proofs.session.print.entries.print_entries.Given as goal

abbrev pub invariant-loop-entry : goal.invariant-loop-entry
invariant-loop-entry l =
    string_bytes l.output ≡ string_bytes l.initial.output
    ++ flat_map (λ entry. codes " " ++ entry_words entry) (entries_view (take l.entry-index l.entries))
