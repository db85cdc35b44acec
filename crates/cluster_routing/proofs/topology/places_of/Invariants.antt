use Rattle.std.proofs.Common.{◌≡◌, [], drop}
use Rattle.cluster_routing.specs.Topology.{put_places}
use Rattle.cluster_routing.proofs.topology.places_of.Given as goal

abbrev pub invariant-shards : goal.invariant-shards
invariant-shards l = put_places 0 [] l.shards ≡ put_places l.place l.by_slot (drop l.place l.shards)
