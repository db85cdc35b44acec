-- What a plan is made of.
use Rattle.std.proofs.Common.{◌≡◌, List, Option, Some, None, Result, Ok, Err, refl}
use Rattle.resp_core.specs.Errors.{Refusal}
use Rattle.cluster_routing.specs.Address.{Address}
use Rattle.cluster_calls.specs.Calls.Call.{Call}
use Rattle.cluster_calls.specs.Calls.Task.{Task, task_of, early_refusal}
use Rattle.cluster_calls.specs.Calls.Parts.{Part, result_then, unless}
use Rattle.cluster_calls.specs.Calls.Plan.{Client, Dispatch, dispatches, in_order, order_of, plan}
use Rattle.cluster_calls.specs.Calls.TaskParts.{task_parts}

-- the parts of a call, their dispatches, and these in the order of sending
pub record Planned (client : Client) (picks : List Address) (task : Task) (ds : List Dispatch) : Type 0 where
  pub parts : List Part
  pub found : List Dispatch
  pub parts_are : task_parts client.settings.read_only client.entries task ≡ Ok parts
  pub found_are : dispatches client picks parts ≡ Ok found
  pub ordered : in_order (order_of task) found ≡ ds

pub planned : (client : Client) (picks : List Address) (call : Call) (ds : List Dispatch) → plan client picks call ≡ Ok ds → Planned client picks (task_of call) ds
planned client picks call ds e = at_early (early_refusal call) e
  where
    at_found : (parts : List Part) → task_parts client.settings.read_only client.entries (task_of call) ≡ Ok parts → (o : Result (List Dispatch) Refusal) → dispatches client picks parts ≡ o
        → result_then o (λ es. Ok (in_order (order_of (task_of call)) es)) ≡ Ok ds → Planned client picks (task_of call) ds
    at_found parts p (Ok es) f e = let same : in_order (order_of (task_of call)) es ≡ ds = cc in record { parts = parts; found = es; parts_are = p; found_are = f; ordered = same }
    at_found parts p (Err r) f e = cc

    at_parts : (o : Result (List Part) Refusal) → task_parts client.settings.read_only client.entries (task_of call) ≡ o
        → result_then o (λ parts. result_then (dispatches client picks parts) (λ es. Ok (in_order (order_of (task_of call)) es))) ≡ Ok ds → Planned client picks (task_of call) ds
    at_parts (Ok parts) p e = at_found parts p (dispatches client picks parts) refl e
    at_parts (Err r) p e = cc

    at_early : (o : Option Refusal) → result_then (unless o (task_parts client.settings.read_only client.entries (task_of call))) (λ parts. result_then (dispatches client picks parts) (λ es. Ok (in_order (order_of (task_of call)) es))) ≡ Ok ds
        → Planned client picks (task_of call) ds
    at_early None e = at_parts (task_parts client.settings.read_only client.entries (task_of call)) refl e
    at_early (Some r) e = cc
