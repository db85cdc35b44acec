use Rattle.std.proofs.Common.{string_bytes}
use Rattle.std.proofs.Common.{map as each}
use Rattle.std.specs.List.{flat_map}
use Rattle.stream_commands.specs.ReadReply.{row}
use Rattle.stream_commands.specs.RecordViews.{entries_view, rows_view}
use Rattle.stream_commands.proofs.Made.{flat_map-each, answers_with}
use Rattle.stream_commands.proofs.records.read.own_claimed_rows.Goals as goal

pub returns : goal.returns
returns c = answers_with (λ v. rows_view v.items) (flat_map (each row)) _ _ _ c.all_rows.result c.in_ok-maps.ensures (flat_map-each row (λ e. (string_bytes e.0, entries_view e.1.ids.items)) (λ m. m.entries) c.in_ok-maps.maps.items) c.all_rows.ensures
