-- The slots of a command's keys, by where its parts go.
use Rattle.std.specs.Prelude.{filter_map}
use Rattle.std.proofs.Common.{◌≡◌, ◌≢◌, List, [], ◌∷◌, map, Result, Ok, Err, refl}
use Rattle.resp_core.specs.Errors.{Refusal, by_cause}
use Rattle.resp_core.specs.declared.errors.redis_error.Cause.TheVariants.{NoRoute}
use Rattle.cluster_routing.specs.Directions.{shown_direction}
use Rattle.cluster_routing.specs.declared.direction.Direction.{Direction as CodeDirection}
use Rattle.cluster_routing.specs.declared.direction.Direction.TheVariants as directions
use Rattle.cluster_routing.specs.declared.route.Route.{Route}
use Rattle.cluster_routing.specs.declared.split.SplitParts.{SplitParts}
use Rattle.cluster_calls.specs.Calls.Parts.{Part, Target, at_number}
use Rattle.cluster_steps.specs.CodeParts.{part_targets, targets_in_direction}
use Rattle.cluster_servers.specs.Slots.{slot_at, slots_by, slots_in}

every : (parts : List Part) → filter_map slot_at (map (λ (part : Part). part.target) parts) ≡ slots_in parts
every [] = refl
every (part ∷ parts) = rw (every parts) refl

pub slots_by_targets : (parts : Result (List Part) Refusal) (ts : List Target) → Ok ts ≡ part_targets parts → filter_map slot_at ts ≡ slots_by parts
slots_by_targets (Ok ps) ts h =
    let same : ts ≡ map (λ (part : Part). part.target) ps = cc in
    rw same (every ps)
slots_by_targets (Err refusal) ts h = cc

pub no_slots : (parts : Result (List Part) Refusal) (refusal : Refusal) → Err refusal ≡ part_targets parts → [] ≡ slots_by parts
no_slots (Ok ps) refusal h = cc
no_slots (Err other) refusal h = refl

-- a command that goes neither to a slot nor in parts has no slots
pub no_slots_elsewhere : (parts : Result (List Part) Refusal) (d : CodeDirection) → ((route : Route) → d ≢ directions.Slot route) → ((split : SplitParts) → d ≢ directions.Parts split)
    → targets_in_direction 0 (shown_direction d) ≡ part_targets parts → [] ≡ slots_by parts
no_slots_elsewhere parts (directions.Slot route) slot split e = absurd (slot route refl)
no_slots_elsewhere parts directions.AnyNode slot split e = slots_by_targets parts (at_number 0 ∷ []) e
no_slots_elsewhere parts (directions.AllNodes policy) slot split e = no_slots parts (by_cause NoRoute) e
no_slots_elsewhere parts (directions.AllPrimaries policy) slot split e = no_slots parts (by_cause NoRoute) e
no_slots_elsewhere parts (directions.Parts parted) slot split e = absurd (split parted refl)
no_slots_elsewhere parts (directions.Nowhere cause) slot split e = no_slots parts (by_cause cause) e
