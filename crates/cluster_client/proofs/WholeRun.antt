-- The run of a command that goes out whole, as a run of one part.
use Rattle.std.proofs.Common.{◌≡◌, ℕ, List, [], ◌∷◌, Option, None, option_map, refl, Result, Ok, Err}
use Rattle.resp_args.specs.Command.{Command}
use Rattle.resp_args.specs.Packed.{sent}
use Rattle.resp_core.specs.Errors.{Refusal}
use Rattle.resp_core.specs.Trees.{Tree}
use Rattle.cluster_routing.specs.Address.{Address}
use Rattle.cluster_routing.specs.Split.{parts_by_place}
use Rattle.cluster_calls.specs.Calls.Legal.{first_hop}
use Rattle.cluster_calls.specs.Calls.Plan.{Client, Dispatch, plan}
use Rattle.cluster_calls.specs.Links.Chains.{ChainMade}
use Rattle.cluster_calls.specs.Links.Orders.{command_call, routes_in_order}
use Rattle.cluster_calls.specs.Links.PartRuns.{IsMadeOfParts, PartsMade}
use Rattle.cluster_calls.specs.Links.World.{World, one_reply}
use Rattle.cluster_calls.proofs.LinkLaws.PartLoop.{PartLoop, parts_done, parts_more, parts_refused}
use Rattle.cluster_steps.proofs.PartReplies.{whole_reply}

pub whole_made : (old now new : World) (d : Dispatch) (r : Result Tree Refusal) → PartLoop old now (d ∷ []) (d ∷ []) [] → ChainMade now new (first_hop d) d.args r → PartsMade old new (d ∷ []) (one_reply r)
whole_made old now new d (Ok tree) l m = parts_done old new (d ∷ []) (tree ∷ []) (parts_more old now new (d ∷ []) d [] [] l tree m)
whole_made old now new d (Err e) l m = parts_refused old now new (d ∷ []) d [] [] l e m

-- its one reply is the command's
pub whole_answer : (client : Client) (picks : List Address) (command : Command) (order : Option (List ℕ)) (number : ℕ) (d : Dispatch) → plan client picks (command_call command order number) ≡ Ok (d ∷ [])
    → None ≡ option_map (routes_in_order order) (parts_by_place command.args client.settings.read_only) → (r : Result Tree Refusal) → IsMadeOfParts (sent command) (d ∷ []) (one_reply r) r
whole_answer client picks command order number d is_plan none (Ok tree) = λ m. whole_reply client picks command order number (d ∷ []) is_plan none (tree ∷ []) refl
whole_answer client picks command order number d is_plan none (Err e) = refl
