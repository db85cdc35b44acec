use Rattle.std.proofs.Common.{ap, sym, ◌∙◌, Some, string_bytes, option_map}
use Rattle.std.proofs.Common.{map as each}
use Rattle.std.specs.List.{flat_map}
use Rattle.stream_commands.specs.Entries.{without_times}
use Rattle.stream_commands.specs.RecordViews.{fields_view}
use Rattle.stream_commands.proofs.Made.{flat_map-each}
use Rattle.stream_commands.proofs.records.entries.other_entries.Goals as goal

pub returns : goal.returns
returns c = ap (option_map (flat_map (each without_times))) c.in_ok-maps.ensures ∙ ap Some (flat_map-each without_times (λ e. (string_bytes e.0, fields_view e.1)) (λ m. m.entries) c.in_ok-maps.maps.items ∙ sym c.in_ok-list_entries.ensures)
