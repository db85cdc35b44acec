-- The parts of a pipeline, as the code finds them.
use Rattle.std.specs.Prelude.{ℕ, List, [], ◌∷◌, map, Option, None, Result, Ok, Err, Vec}
use Rattle.std.specs.declared.alloc.Global.{Global}
use Rattle.resp_core.specs.Errors.{Refusal}
use Rattle.cluster_routing.specs.declared.route.Route.{Route}
use Rattle.cluster_steps.specs.Requests.{CodePart}
use Rattle.cluster_calls.specs.Calls.Parts.{Part, Target, at_slot, if_at_slot, part_to}
use Rattle.cluster_steps.specs.FirstPlaces.{part_of}

-- the part that goes to a route's slot
abbrev pub whole_by : List (List ℕ) → Route → Part
whole_by args route = part_to args (at_slot route)

-- the same, by where the parts of a command go
abbrev pub whole_at : List (List ℕ) → List Target → Option Part
whole_at args (target ∷ []) = if_at_slot args target
whole_at args _ = None

abbrev pub parts_found : Result (Vec CodePart Global) Refusal → Result (List Part) Refusal
parts_found (Ok parts) = Ok (map part_of parts.items)
parts_found (Err refusal) = Err refusal
