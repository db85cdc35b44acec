-- The links of a client as plain data.
use Rattle.std.specs.Prelude.{List}
use Rattle.resp_link.specs.Call.{Seen}
use Rattle.cluster_calls.specs.Links.World.{Node, nodes}
use Rattle.cluster_steps.specs.declared.links.Links.{Links}

-- the nodes with what is seen of their links
abbrev pub nodes_of : {L : Type 0} → (L → Seen) → Links L → List Node
nodes_of seen links = nodes seen links.nodes.items
