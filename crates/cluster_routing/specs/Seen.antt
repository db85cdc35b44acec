-- What the code's values are.
use Rattle.std.specs.Prelude.{List, ◌∷◌, map, Option, Some, None}
use Rattle.std.specs.Borrow.{Bor}
use Rattle.std.specs.String.{string_bytes}
use Rattle.cluster_routing.specs.Address.{Address}
use Rattle.cluster_routing.specs.SlotMap.{Nodes}
use Rattle.cluster_routing.specs.declared.address.NodeAddress.{NodeAddress}

-- the address that a node's value is
abbrev pub address : NodeAddress → Address
address a = record { host = string_bytes a.host; port = a.port }

-- what several addresses stand for
abbrev pub addresses : List NodeAddress → List Address
addresses as' = map address as'

-- the nodes that these serve as, a primary and its replicas
abbrev pub primary_with : NodeAddress → List NodeAddress → Nodes
primary_with primary replicas = record { primary = address primary; replicas = addresses replicas }

-- an address that may be there, and more addresses
abbrev pub first_and_rest : Option (Bor NodeAddress) → List NodeAddress → List Address
first_and_rest None more = addresses more
first_and_rest (Some a) more = address a.now ∷ addresses more
