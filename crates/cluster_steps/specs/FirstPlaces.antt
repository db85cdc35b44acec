-- Where one part goes first, as the code finds it.
use Rattle.std.specs.Prelude.{◌≡◌, if◌then◌else◌, List, [], ◌++◌, Option, Some, None, Result, Ok, Err, MatchOption}
use Rattle.resp_core.specs.Errors.{Refusal, by_cause}
use Rattle.resp_core.specs.declared.errors.redis_error.Cause.TheVariants.{NoNode, NoLink}
use Rattle.cluster_routing.specs.Address.{Address}
use Rattle.cluster_routing.specs.Info.{texts}
use Rattle.cluster_routing.specs.Candidates.{Candidates}
use Rattle.cluster_routing.specs.Choice.{Strategy, IsAdmitted}
use Rattle.cluster_routing.specs.SlotMap.{SlotEntries}
use Rattle.cluster_routing.specs.Seen.{address}
use Rattle.cluster_steps.specs.declared.hop.Hop.{Hop}
use Rattle.cluster_steps.specs.declared.route.Target.{Target as CodeTarget}
use Rattle.cluster_steps.specs.declared.route.Target.TheVariants as targets
use Rattle.cluster_steps.specs.Requests.{CodePart}
use Rattle.cluster_calls.specs.Links.World.{is_linked}
use Rattle.cluster_calls.specs.Calls.Parts.{Target, at_slot, at_number, Part}
use Rattle.cluster_calls.specs.Calls.Plan.{First, first_of, target_candidates}
use Rattle.cluster_calls.specs.Calls.Picks.{IsPick}

-- what the code's targets and parts are
abbrev pub target_of : CodeTarget → Target
target_of (targets.Slot route) = at_slot route
target_of (targets.Number number) = at_number number

-- what a part of the code stands for
abbrev pub part_of : CodePart → Part
part_of part = record { target = target_of part.to; args = texts part.args.items }

-- the node that a target leads to, by these picks; none where no node serves it
abbrev pub node_in : Option First → Result Address Refusal
node_in None = Err (by_cause NoNode)
node_in (Some first) = Ok first.node

abbrev pub node_by_place : Option Address → Result Address Refusal
node_by_place None = Err (by_cause NoNode)
node_by_place (Some node) = Ok node

-- the node that a target leads to: refused where no node serves it, and where no open link leads to it
abbrev pub node_with_link : List Address → Option First → Result Address Refusal
node_with_link links None = Err (by_cause NoNode)
node_with_link links (Some first) = if is_linked links first.node then Ok first.node
    else Err (by_cause NoLink)

-- this node, where an open link leads to it
abbrev pub if_linked : List Address → Address → Result Address Refusal
if_linked links node = if is_linked links node then Ok node else Err (by_cause NoLink)

abbrev pub node_by : {A : Type 0} → (A → Address) → Result A Refusal → Result Address Refusal
node_by node (Ok a) = Ok (node a)
node_by node (Err refusal) = Err refusal

-- the node of a hop, or why there is none
abbrev pub node_of_hop : Result Hop Refusal → Result Address Refusal
node_of_hop hop = node_by (λ p. address p.node) hop

-- the picks for one target: what the strategy answered where it is asked, and no further one
abbrev pub ArePicksAt : Option Strategy → SlotEntries → Target → List Address → Type 0
ArePicksAt None entries target picks = picks ≡ []
ArePicksAt (Some admits) entries target picks =
    IsPick admits (target_candidates entries target) picks
    × MatchOption (first_of entries picks target) (picks ≡ []) (λ (first : First). first.picks ≡ [])

-- what a strategy answered, where it is asked
abbrev pub IsPickOf : Option Strategy → Option Candidates → Option Address → Type 0
IsPickOf None candidates pick = pick ≡ None
IsPickOf (Some admits) None pick = pick ≡ None
IsPickOf (Some admits) (Some candidates) None = ⊥
IsPickOf (Some admits) (Some candidates) (Some pick) = IsAdmitted admits candidates pick

-- Where a target leads, by picks of its own, which stand behind those that were made before.
pub record FindsFirst (strategy : Option Strategy) (entries : SlotEntries) (target : Target)
    (old new : List Address) (Leads : Option First → Type 0) : Type 0 where
  pub own : List Address
  pub behind : new ≡ old ++ own
  pub picks : ArePicksAt strategy entries target own
  pub leads : Leads (first_of entries own target)
