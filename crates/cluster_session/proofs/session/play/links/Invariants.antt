use Rattle.std.proofs.Common.{◌≡◌, ◌++◌, map}
use Rattle.cluster_calls.specs.Links.World.{nodes}
use Rattle.cluster_session.specs.ScriptRead.{node_in}
use Rattle.cluster_session.specs.Session.{node_at_start}
use Rattle.cluster_session.proofs.Seen.{link_seen}
use Rattle.cluster_session.proofs.session.play.links.Given as goal

abbrev pub invariant-loop-address : goal.invariant-loop-address
invariant-loop-address l =
    nodes link_seen l.links.items ++ map (node_at_start l.fn.levels.limit) (map node_in l.address-iterator)
    ≡ map (node_at_start l.fn.levels.limit) (map node_in l.fn.set_up.entries)
