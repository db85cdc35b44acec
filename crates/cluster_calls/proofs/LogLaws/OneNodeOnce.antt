-- A command to one node sends one request.
use Rattle.std.specs.Prelude.{not, ◌&&◌}
use Rattle.std.proofs.Common.{◌≡◌, Bool, true, false, cond, List, [], ◌∷◌, Ok, Err, MatchResult, ap}
use Rattle.resp_core.specs.Errors.{by_cause}
use Rattle.resp_core.specs.declared.errors.redis_error.Cause.TheVariants.{NoLink, NoResponse}
use Rattle.resp_args.specs.Command.{Command}
use Rattle.resp_args.specs.Packed.{sent}
use Rattle.cluster_routing.specs.Address.{Address}
use Rattle.cluster_calls.specs.Links.Log.{Exchange, requests}
use Rattle.cluster_calls.specs.Links.World.{is_linked}
use Rattle.cluster_calls.specs.Calls.Call.{At}
use Rattle.cluster_calls.specs.Calls.Legal.{direct, AreMade, IsLegalCall}
use Rattle.cluster_calls.specs.Calls.Parts.{part_to, at_node, result_then}
use Rattle.cluster_calls.specs.Calls.Plan.{Client, Dispatch, dispatches, with_first}
use Rattle.cluster_calls.specs.Calls.Task.{one_node}

pub asked_once : (client : Client) (picks : List Address) (node : Address) (command : Command) (xs : List Exchange) → IsLegalCall client picks (At node command) xs
    → requests xs ≡ cond (not command.no_response && is_linked client.links node) (direct (record { node = node; args = sent command }) ∷ []) []
asked_once client picks node command xs legal = by command.no_response legal
  where
    there : Dispatch
    there = record { node = node; args = sent command }

    linked : (l : Bool) → MatchResult (result_then (cond l (with_first (record { node = node; args = sent command }) (Ok [])) (Err (by_cause NoLink))) (λ ds. Ok ds)) (λ ds. AreMade client (one_node node command) ds xs) (λ refusal. xs ≡ [])
        → requests xs ≡ cond l (direct (record { node = node; args = sent command }) ∷ []) []
    linked true h = h
    linked false h = ap requests h

    by : (b : Bool)
        → MatchResult (result_then (cond b (Err (by_cause NoResponse)) (Ok (part_to (sent command) (at_node node) ∷ []))) (λ parts. result_then (dispatches client picks parts) (λ ds. Ok ds))) (λ ds. AreMade client (one_node node command) ds xs) (λ refusal. xs ≡ [])
        → requests xs ≡ cond (not b && is_linked client.links node) (direct (record { node = node; args = sent command }) ∷ []) []
    by true h = ap requests h
    by false h = linked (is_linked client.links node) h
