use Rattle.std.proofs.Common.{◌≡◌, List, Option, None, ap}
use Rattle.std.proofs.Common.{map as each}
use Rattle.std.specs.List.{flat_map}
use Rattle.std.specs.Option.{option_map}
use Rattle.resp_core.specs.Trees.{Tree}
use Rattle.resp_core.specs.View.{view, pair_view}
use Rattle.resp_args.proofs.Trees.{items-trees_of, pair_list-pairs_of, view-Array, view-Map}
use Rattle.resp_args.specs.Convert.{traverse, one_pair}
use Rattle.stream_commands.specs.Entries.{Entry}
use Rattle.stream_commands.specs.Shapes.{named}
use Rattle.stream_commands.specs.ReadReply.{row}
use Rattle.stream_commands.proofs.Forms.{if_some-weaker}
use Rattle.stream_commands.proofs.records.forms.first_entries.Goals as goal

pub returns-in-Array : goal.returns-in-Array
returns-in-Array c = if_some-weaker c.entries_of_array.result c.entries_of_array.ensures (λ list (h : (form : Tree → Option (List Entry)) → form (view list.now) ≡ None → traverse (named form) (each view c.as_slice.result.now) ≡ None) form k. rw (c.in-Array.is, view-Array c.in-Array.rows, items-trees_of (each view c.in-Array.rows.items), ← c.as_slice.ensures.value) (ap (option_map (flat_map (each row))) (h form k)))

pub returns-in-Map : goal.returns-in-Map
returns-in-Map c = if_some-weaker c.entries_of_map.result c.entries_of_map.ensures (λ list (h : (form : Tree → Option (List Entry)) → form (view list.now) ≡ None → traverse (λ p. named form (one_pair p)) (each pair_view c.as_slice-in-Map.result.now) ≡ None) form k. rw (c.in-Map.is, view-Map c.in-Map.pairs, pair_list-pairs_of (each pair_view c.in-Map.pairs.items), ← c.as_slice-in-Map.ensures.value) (ap (option_map (flat_map (each row))) (h form k)))
