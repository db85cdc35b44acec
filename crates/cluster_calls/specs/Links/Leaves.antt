-- What link calls leave of the nodes that they do not name.
use Rattle.std.specs.Prelude.{◌≡◌, List, []}
use Rattle.cluster_routing.specs.Address.{Address}
use Rattle.cluster_calls.specs.Links.Request.{Request, requests_to}
use Rattle.cluster_calls.specs.Links.Events.{Event, Runs, log_of}
use Rattle.cluster_calls.specs.Links.World.{Node, addresses_of, link_at}

-- the nodes are those that there were, and the link to a node without a request in the log is as it was
pub record Leaves (old new : List Node) (log : List Request) : Type 0 where
  pub addresses : addresses_of new ≡ addresses_of old
  pub unasked : (a : Address) → requests_to a log ≡ [] → link_at new a ≡ link_at old a

-- The link calls of every run, however they end, leave the addresses of the nodes, and the link of each node
-- that their log does not name.
abbrev pub UnaskedNodesStay : Type 0
UnaskedNodesStay = (old new : List Node) (xs : List Event) → Runs old new xs → Leaves old new (log_of xs)
