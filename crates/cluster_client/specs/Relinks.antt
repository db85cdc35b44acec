-- What becomes of a client's nodes by a link that is handed in, and the nodes to which a link is missing.
use Rattle.std.specs.Prelude.{List, [], ◌∷◌, filter, not, if◌then◌else◌}
use Rattle.resp_link.specs.Call.{Seen}
use Rattle.cluster_routing.specs.Address.{Address, same_address}
use Rattle.cluster_routing.specs.AllNodes.{all_nodes}
use Rattle.cluster_calls.specs.Links.World.{Node, World, is_linked, open_links}

-- the nodes with this link to one of them: in the place of the one that it has, else behind the others
abbrev pub put_link : List Node → Address → Seen → List Node
put_link [] a link = record { address = a; link = link } ∷ []
put_link (n ∷ ns) a link = if same_address n.address a then record { address = n.address; link = link } ∷ ns
    else n ∷ put_link ns a link

-- a client with this link to a node, and all else as it was
abbrev pub with_link : World → Address → Seen → World
with_link world a link = record world { nodes = put_link world.nodes a link }

-- the nodes of the slot map, each once, ascending, to which no open link leads
abbrev pub unlinked_nodes : World → List Address
unlinked_nodes world = filter (λ a. not (is_linked (open_links world.nodes) a)) (all_nodes world.entries)
