-- A refresh sends one request.
use Rattle.std.proofs.Common.{◌≡◌, Bool, true, false, cond, List, [], ◌∷◌, Ok, Err, MatchResult, ap}
use Rattle.resp_core.specs.Errors.{by_cause}
use Rattle.resp_core.specs.declared.errors.redis_error.Cause.TheVariants.{NoLink}
use Rattle.cluster_routing.specs.Address.{Address}
use Rattle.cluster_calls.specs.Links.Log.{Exchange, requests}
use Rattle.cluster_calls.specs.Links.Request.{slots_command}
use Rattle.cluster_calls.specs.Links.World.{is_linked}
use Rattle.cluster_calls.specs.Calls.Call.{Refresh}
use Rattle.cluster_calls.specs.Calls.Legal.{direct, AreMade, IsLegalCall}
use Rattle.cluster_calls.specs.Calls.Parts.{result_then}
use Rattle.cluster_calls.specs.Calls.Plan.{Client, Dispatch, with_first}
use Rattle.cluster_calls.specs.Calls.Task.{slot_map_of}

pub refresh_once : (client : Client) (picks : List Address) (node : Address) (xs : List Exchange) → IsLegalCall client picks (Refresh node) xs
    → requests xs ≡ cond (is_linked client.links node) (direct (record { node = node; args = slots_command }) ∷ []) []
refresh_once client picks node xs legal = by (is_linked client.links node) legal
  where
    there : Dispatch
    there = record { node = node; args = slots_command }

    by : (b : Bool) → MatchResult (result_then (cond b (with_first (record { node = node; args = slots_command }) (Ok [])) (Err (by_cause NoLink))) (λ ds. Ok ds)) (λ ds. AreMade client (slot_map_of node) ds xs) (λ refusal. xs ≡ [])
        → requests xs ≡ cond b (direct (record { node = node; args = slots_command }) ∷ []) []
    by true l = l
    by false l = ap requests l
