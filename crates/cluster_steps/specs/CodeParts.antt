-- Where the parts of a command go, as the code finds it.
use Rattle.std.specs.Prelude.{ℕ, List, [], ◌∷◌, map, Option, Some, None, Result, Ok, Err}
use Rattle.resp_core.specs.Errors.{Refusal, by_cause}
use Rattle.resp_core.specs.declared.errors.redis_error.Cause.TheVariants.{NoRoute}
use Rattle.cluster_routing.specs.Command.{Args}
use Rattle.cluster_routing.specs.declared.route.Route.{Route}
use Rattle.cluster_routing.specs.Directions.{Direction, in_parts, nowhere_by, whole}
use Rattle.cluster_routing.specs.Info.{shown_parts}
use Rattle.cluster_routing.specs.Routing.{to_any_node, to_route}
use Rattle.cluster_routing.specs.Split.{sub_at}
use Rattle.cluster_routing.specs.declared.split.SplitParts.{SplitParts}
use Rattle.cluster_steps.specs.declared.route.Targets.{Targets as CodeTargets}
use Rattle.cluster_steps.specs.declared.route.Targets.TheVariants as targets
use Rattle.cluster_calls.specs.Calls.Parts.{Part, Target, at_number, at_slot, part_to}
use Rattle.cluster_steps.specs.FirstPlaces.{target_of}

-- where the parts go
abbrev pub part_targets : Result (List Part) Refusal → Result (List Target) Refusal
part_targets (Ok parts) = Ok (map (λ (part : Part). part.target) parts)
part_targets (Err refusal) = Err refusal

-- how the code splits a command, none where it goes whole
abbrev pub split_in : CodeTargets → Option SplitParts
split_in (targets.Whole target) = None
split_in (targets.Split split) = Some split

abbrev pub route_target : Route × List ℕ → Target
route_target route = at_slot route.0

abbrev pub targets_in : CodeTargets → List Target
targets_in (targets.Whole target) = target_of target ∷ []
targets_in (targets.Split split) = map route_target (shown_parts split.routes.items)

-- where the code lets the parts of a command go, or why nowhere
abbrev pub targets_by : Result CodeTargets Refusal → Result (List Target) Refusal
targets_by (Ok made) = Ok (targets_in made)
targets_by (Err refusal) = Err refusal

-- the targets of a command that goes this way, or why it has none
abbrev pub targets_in_direction : ℕ → Direction → Result (List Target) Refusal
targets_in_direction number (whole (to_route route)) = Ok (at_slot route ∷ [])
targets_in_direction number (whole to_any_node) = Ok (at_number number ∷ [])
targets_in_direction number (whole d) = Err (by_cause NoRoute)
targets_in_direction number (in_parts parts) = Ok (map route_target parts.routes)
targets_in_direction number (nowhere_by cause) = Err (by_cause cause)

-- arguments as the part that goes to a route's slot
abbrev pub routed_part : Route × List (List ℕ) → Part
routed_part p = part_to p.1 (at_slot p.0)

-- what the part at a route's places is sent with
abbrev pub routed_at : Args → Route × List ℕ → Route × List (List ℕ)
routed_at args p = (p.0, sub_at args p.1)
