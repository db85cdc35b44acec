-- The outcomes of several nodes, as the code holds them.
use Rattle.std.specs.Prelude.{List, map, Result, Ok, Err, Vec}
use Rattle.std.specs.Global.{Global}
use Rattle.resp_core.specs.Trees.{Tree}
use Rattle.resp_core.specs.View.{view}
use Rattle.resp_core.specs.Errors.{Refusal}
use Rattle.resp_core.specs.declared.value.Value.{Value}
use Rattle.cluster_routing.specs.Address.{Address}
use Rattle.cluster_routing.specs.Policies.{Outcome, by_address, tree_or_refusal, trees_by}
use Rattle.cluster_routing.specs.Seen.{address}
use Rattle.cluster_routing.specs.declared.address.NodeAddress.{NodeAddress}

-- a node with what it answered
abbrev pub outcome_of : NodeAddress × Result Value Refusal → Outcome
outcome_of o = (address o.0, tree_or_refusal o.1)

-- what the code's outcomes stand for
abbrev pub outcomes_of : List (NodeAddress × Result Value Refusal) → List Outcome
outcomes_of os = map outcome_of os

-- the replies without their nodes, or the refusal
abbrev pub trees_or_refusal : Result (List (Address × Tree)) Refusal → Result (List Tree) Refusal
trees_or_refusal (Ok replies) = Ok (trees_by replies)
trees_or_refusal (Err refusal) = Err refusal

abbrev pub values_or_refusal : Result (Vec Value Global) Refusal → Result (List Tree) Refusal
values_or_refusal (Ok values) = Ok (map view values.items)
values_or_refusal (Err refusal) = Err refusal

-- the map of the replies by their nodes, or the refusal
abbrev pub map_or_refusal : Result (List (Address × Tree)) Refusal → Result Tree Refusal
map_or_refusal (Ok replies) = Ok (by_address replies)
map_or_refusal (Err refusal) = Err refusal
