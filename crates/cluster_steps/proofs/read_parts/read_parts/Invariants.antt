use Rattle.std.proofs.Common.{◌≡◌, ◌++◌, map}
use Rattle.std.specs.Vec.Iter.{into_iter_items}
use Rattle.cluster_routing.specs.Info.{shown_parts, texts}
use Rattle.stream_commands.specs.Joining.{positions}
use Rattle.cluster_calls.specs.Calls.Parts as parts
use Rattle.cluster_steps.specs.FirstPlaces.{part_of}
use Rattle.cluster_steps.specs.Reads.{part_at, read_places, streams_in}
use Rattle.cluster_steps.proofs.read_parts.read_parts.Given as goal

abbrev pub invariant-groups : goal.invariant-groups
invariant-groups l = record {
  list : map part_of l.list.items ++ map (part_at l.options (streams_in l.streams)) (shown_parts (into_iter_items l.route-iterator)) ≡ parts.read_parts (texts l.read_only) l.options (streams_in l.streams);
  places : positions l.places.items ++ map (λ g. g.1) (shown_parts (into_iter_items l.route-iterator)) ≡ read_places (streams_in l.streams);
}
