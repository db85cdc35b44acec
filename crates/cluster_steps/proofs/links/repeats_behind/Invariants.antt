use Rattle.std.proofs.Common.{◌≡◌, drop}
use Rattle.cluster_calls.specs.Links.World.{nodes, has_repeats, addresses_of}
use Rattle.cluster_steps.proofs.links.repeats_behind.Given as goal

abbrev pub invariant-links : goal.invariant-links
invariant-links g l = has_repeats (addresses_of (nodes g.L.ConnectionLike.seen l.links)) ≡ has_repeats (addresses_of (nodes g.L.ConnectionLike.seen (drop l.index l.links)))
