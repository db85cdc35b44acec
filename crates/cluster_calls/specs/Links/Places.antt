-- Where a node's link stands in the list of links.
use Rattle.std.specs.Prelude.{◌≡◌, ℕ, true, List, Some}
use Rattle.cluster_routing.specs.Address.{Address}
use Rattle.cluster_calls.specs.Links.World.{Node, place_at, is_linked, open_links}

-- this is the place of the node, and its link is open
pub record IsOpenAt (all : List Node) (node : Address) (link : ℕ) : Type 0 where
  pub place : place_at all node ≡ Some link
  pub linked : is_linked (open_links all) node ≡ true
