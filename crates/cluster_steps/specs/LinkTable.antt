-- The table of the links' addresses.
use Rattle.std.specs.Prelude.{ℕ, Bool, true, List, Option, Some, None, map}
use Rattle.std.specs.List.{list_all}
use Rattle.indexmap.specs.IndexSet.{IndexSet}
use Rattle.cluster_routing.specs.Address.{Address, same_address}
use Rattle.cluster_routing.specs.Lists.{among}
use Rattle.cluster_routing.specs.Seen.{address, addresses}
use Rattle.cluster_routing.specs.declared.address.NodeAddress.{NodeAddress}
use Rattle.cluster_steps.specs.declared.links.Told.{Told}
use Rattle.cluster_steps.specs.declared.links.Told.TheVariants.{Nothing, Absent, At}

-- whether the table, where there is one, has each of these addresses
abbrev pub knows_all : {S : Type 0} → Option (IndexSet NodeAddress S) → List Address → Bool
knows_all None nodes = true
knows_all (Some table) nodes = list_all (λ node. among same_address node (addresses table.keys)) nodes

-- whether it has the address of each of these links
abbrev pub knows_links : {L S : Type 0} → Option (IndexSet NodeAddress S) → List (NodeAddress × L) → Bool
knows_links places links = knows_all places (map (λ link. address link.0) links)

-- the place that it tells
abbrev pub told_place : Told → Option ℕ
told_place Nothing = None
told_place Absent = None
told_place (At link) = Some link
