-- What the code's answers on routes are.
use Rattle.std.specs.Prelude.{ℕ, Bool, false, List, map, option_map, Option, Some, None, Vec}
use Rattle.std.specs.Borrow.{Bor}
use Rattle.std.specs.Global.{Global}
use Rattle.cluster_routing.specs.Address.{Address, same_address}
use Rattle.cluster_routing.specs.Seen.{address}
use Rattle.cluster_routing.specs.Routing.{Destination, to_any_node, to_any_primary, to_route, to_address, to_all_nodes, to_all_primaries, to_parts}
use Rattle.cluster_routing.specs.Split.{PartsByPlace, Splitting}
use Rattle.cluster_routing.specs.declared.route.Route.{Route}
use Rattle.cluster_routing.specs.declared.policy.MultiSlotArgPattern.{MultiSlotArgPattern}
use Rattle.cluster_routing.specs.declared.policy.ResponsePolicy.{ResponsePolicy}
use Rattle.cluster_routing.specs.declared.split.SplitParts.{SplitParts}
use Rattle.cluster_routing.specs.declared.routing.RoutingInfo.{RoutingInfo}
use Rattle.cluster_routing.specs.declared.routing.RoutingInfo.TheVariants.{SingleNode, MultiNode}
use Rattle.cluster_routing.specs.declared.routing.SingleNodeRoutingInfo.{SingleNodeRoutingInfo}
use Rattle.cluster_routing.specs.declared.routing.SingleNodeRoutingInfo.TheVariants.{Random, RandomPrimary, SpecificNode, ByAddress}
use Rattle.cluster_routing.specs.declared.routing.MultipleNodeRoutingInfo.{MultipleNodeRoutingInfo}
use Rattle.cluster_routing.specs.declared.routing.MultipleNodeRoutingInfo.TheVariants.{AllNodes, AllMasters, MultiSlot}
use Rattle.cluster_routing.specs.declared.routing.Redirect.{Redirect}
use Rattle.cluster_routing.specs.declared.routing.Redirect.TheVariants.{Moved, Ask}

-- a set of names, and lent arguments, as their bytes
abbrev pub texts : List (Vec ℕ Global) → List (List ℕ)
texts names = map (λ (v : Vec ℕ Global). v.items) names

-- bytes that are lent
abbrev pub lent : List (Bor (List ℕ)) → List (List ℕ)
lent args = map (λ (a : Bor (List ℕ)). a.now) args

-- a route with its places, or with the arguments of its command
abbrev pub shown_part : Route × Vec ℕ Global → Route × List ℕ
shown_part p = (p.0, p.1.items)

-- the positions of each part's arguments
abbrev pub positions_in : List (Route × Vec ℕ Global) → List (List ℕ)
positions_in parts = map (λ (p : Route × List ℕ). p.1) (map shown_part parts)

-- several of them
abbrev pub shown_parts : List (Route × Vec ℕ Global) → List (Route × List ℕ)
shown_parts parts = map shown_part parts

-- routes, each with the arguments that a command is sent with
abbrev pub shown_routed : List (Route × Vec (Vec ℕ Global) Global) → List (Route × List (List ℕ))
shown_routed parts = map (λ (p : Route × Vec (Vec ℕ Global) Global). (p.0, texts p.1.items)) parts

abbrev pub shown_splitting : MultiSlotArgPattern × ResponsePolicy → Splitting
shown_splitting p = record { pattern = p.0; policy = p.1 }

-- what the parts of a split command stand for
abbrev pub shown_split : SplitParts → PartsByPlace
shown_split p = record
    { routes = map shown_part p.routes.items; splitting = record { pattern = p.pattern; policy = p.policy } }

-- lent arguments of which some are gaps
abbrev pub lent_texts : List (Option (Bor (List ℕ))) → List (Option (List ℕ))
lent_texts args = map (λ (a : Option (Bor (List ℕ))). option_map (λ (b : Bor (List ℕ)). b.now) a) args

-- where a command to one node goes
abbrev pub shown_single : SingleNodeRoutingInfo → Destination
shown_single Random = to_any_node
shown_single RandomPrimary = to_any_primary
shown_single (SpecificNode route) = to_route route
shown_single (ByAddress a) = to_address (address a)

-- where a command to several nodes goes, and by which policy their replies become one
abbrev pub shown_multiple : Option ResponsePolicy → MultipleNodeRoutingInfo → Destination
shown_multiple policy AllNodes = to_all_nodes policy
shown_multiple policy AllMasters = to_all_primaries policy
shown_multiple policy (MultiSlot p) = to_parts (map shown_part p.0.items) p.1 policy

-- what a `RoutingInfo` stands for
abbrev pub shown_info : RoutingInfo → Destination
shown_info (SingleNode info) = shown_single info
shown_info (MultiNode info) = shown_multiple info.1 info.0

-- a route leads to its node, no route to any node
abbrev pub single_of : Option Route → SingleNodeRoutingInfo
single_of None = Random
single_of (Some route) = SpecificNode route

-- where a redirect sends a request on: from now on, or this once
pub data Redirection : Type 0 where
  from_now_on : Address → Redirection
  this_once : Address → Redirection

-- both are MOVED or both ASK, and to the same address
abbrev pub same_redirection : Redirection → Redirection → Bool
same_redirection (from_now_on a) (from_now_on b) = same_address a b
same_redirection (this_once a) (this_once b) = same_address a b
same_redirection _ _ = false

-- what a `Redirect` stands for
abbrev pub shown_redirect : Redirect → Redirection
shown_redirect (Moved a) = from_now_on (address a)
shown_redirect (Ask a) = this_once (address a)
