-- The plan of a call and its picks, from the dispatches of its parts.
use Rattle.std.proofs.Common.{◌≡◌, ℕ, true, false, List, [], Option, Some, None, refl, sym, ap, ◌∙◌, Result, Ok, Err, length}
use Rattle.resp_core.specs.Trees.{Tree}
use Rattle.resp_core.specs.Errors.{Refusal, by_cause}
use Rattle.resp_core.specs.declared.errors.redis_error.Cause.TheVariants.{BadOrder}
use Rattle.resp_args.specs.Command.{Command}
use Rattle.cluster_routing.specs.Address.{Address}
use Rattle.cluster_routing.specs.Choice.{Strategy}
use Rattle.cluster_steps.specs.Dispatches.{ArePicksFor, AreDispatched, IsPlanned}
use Rattle.cluster_calls.specs.Links.Happened.{is_refresh}
use Rattle.cluster_calls.specs.Links.Orders.{command_call}
use Rattle.cluster_calls.specs.Calls.Answer.{Value, answer_in}
use Rattle.cluster_calls.specs.Calls.Call.{Call}
use Rattle.cluster_calls.specs.Calls.Task.{one_command, task_of}
use Rattle.cluster_calls.specs.Calls.Parts.{Part, parts_of, fits_order, if_ordered, result_then}
use Rattle.cluster_calls.specs.Calls.Plan.{Client, Dispatch, dispatches, in_order, order_of, call_parts, plan}
use Rattle.cluster_calls.specs.Calls.Picks.{ArePicks}

-- ---- from the parts of any call

module _ (strategy : Option Strategy) (client : Client) (call : Call) (picks : List Address) where
  -- what follows from the parts, or from why there are none
  abbrev planned_by : Result (List Part) Refusal → Result (List Dispatch) Refusal
  planned_by r = result_then r (λ parts. result_then (dispatches client picks parts) (λ ds. Ok (in_order (order_of (task_of call)) ds)))

  abbrev ordered : Result (List Dispatch) Refusal → Result (List Dispatch) Refusal
  ordered r = result_then r (λ ds. Ok (in_order (order_of (task_of call)) ds))

  pub plan_made : (parts : List Part) (ds : List Dispatch) → call_parts client call ≡ Ok parts → AreDispatched strategy client parts picks (Ok ds) → plan client picks call ≡ Ok (in_order (order_of (task_of call)) ds)
  plan_made parts ds e d = ap planned_by e ∙ ap ordered (sym d.planned)

  pub plan_refused : (parts : List Part) (refusal : Refusal) → call_parts client call ≡ Ok parts → AreDispatched strategy client parts picks (Err refusal) → plan client picks call ≡ Err refusal
  plan_refused parts refusal e d = ap planned_by e ∙ ap ordered (sym d.planned)

  pub picks_made : (parts : List Part) (made : Result (List Dispatch) Refusal) → call_parts client call ≡ Ok parts → AreDispatched strategy client parts picks made → ArePicks strategy client call picks
  picks_made parts made e d = by strategy d.picked
    where
      by : (s : Option Strategy) → ArePicksFor s client parts picks → ArePicks s client call picks
      by None h = h
      by (Some admits) h = rw e h

  -- without parts
  pub plan_unparted : (refusal : Refusal) → call_parts client call ≡ Err refusal → plan client picks call ≡ Err refusal
  plan_unparted refusal e = ap planned_by e

-- without parts there are no picks
pub picks_unparted : (strategy : Option Strategy) (client : Client) (call : Call) (refusal : Refusal) → call_parts client call ≡ Err refusal → ArePicks strategy client call []
picks_unparted None client call refusal e = refl
picks_unparted (Some admits) client call refusal e = rw e refl

-- ---- the call for a command

module _ (command : Command) (order : Option (List ℕ)) (number : ℕ) where
  pub command_task : task_of (command_call command order number) ≡ one_command command number order
  command_task = by order
    where
      by : (o : Option (List ℕ)) → task_of (command_call command o number) ≡ one_command command number o
      by None = refl
      by (Some numbers) = refl

  pub command_value : (tree : Tree) → answer_in (command_call command order number) tree ≡ Some (Value tree)
  command_value tree = by order
    where
      by : (o : Option (List ℕ)) → answer_in (command_call command o number) tree ≡ Some (Value tree)
      by None = refl
      by (Some numbers) = refl

  pub command_plain : is_refresh (command_call command order number) ≡ false
  command_plain = by order
    where
      by : (o : Option (List ℕ)) → is_refresh (command_call command o number) ≡ false
      by None = refl
      by (Some numbers) = refl

  command_order : order_of (task_of (command_call command order number)) ≡ order
  command_order = ap order_of command_task

  -- ---- its parts

  module _ (client : Client) where
    checked_parts : call_parts client (command_call command order number) ≡ result_then (parts_of client.settings.read_only command number) (if_ordered order)
    checked_parts = by order
      where
        by : (o : Option (List ℕ)) → call_parts client (command_call command o number) ≡ result_then (parts_of client.settings.read_only command number) (if_ordered o)
        by None = refl
        by (Some numbers) = refl

    no_parts : (refusal : Refusal) → parts_of client.settings.read_only command number ≡ Err refusal → call_parts client (command_call command order number) ≡ Err refusal
    no_parts refusal e = checked_parts ∙ ap (λ r. result_then r (if_ordered order)) e

    module _ (parts : List Part) (are : parts_of client.settings.read_only command number ≡ Ok parts) where
      fit_parts : fits_order order (length parts) ≡ true → call_parts client (command_call command order number) ≡ Ok parts
      fit_parts f = checked_parts ∙ ap (λ r. result_then r (if_ordered order)) are ∙ fits
        where
          fits : if_ordered order parts ≡ Ok parts
          fits = rw f refl

      unfit_parts : fits_order order (length parts) ≡ false → call_parts client (command_call command order number) ≡ Err (by_cause BadOrder)
      unfit_parts f = checked_parts ∙ ap (λ r. result_then r (if_ordered order)) are ∙ unfit
        where
          unfit : if_ordered order parts ≡ Err (by_cause BadOrder)
          unfit = rw f refl

    -- ---- its plan

    module _ (strategy : Option Strategy) where
      refused_early : (refusal : Refusal) → call_parts client (command_call command order number) ≡ Err refusal → IsPlanned strategy client (command_call command order number) [] (Err refusal)
      refused_early refusal e = record { planned = plan_unparted strategy client (command_call command order number) [] refusal e; picked = picks_unparted strategy client (command_call command order number) refusal e }

      -- it has no parts
      pub command_unparted : (refusal : Refusal) → parts_of client.settings.read_only command number ≡ Err refusal → IsPlanned strategy client (command_call command order number) [] (Err refusal)
      command_unparted refusal e = refused_early refusal (no_parts refusal e)

      module _ (parts : List Part) (are : parts_of client.settings.read_only command number ≡ Ok parts) where
        -- the order does not fit its parts
        pub command_unfit : fits_order order (length parts) ≡ false → IsPlanned strategy client (command_call command order number) [] (Err (by_cause BadOrder))
        command_unfit f = refused_early (by_cause BadOrder) (unfit_parts parts are f)

        module _ (fits : fits_order order (length parts) ≡ true) (picks : List Address) where
          -- a part has no place
          pub command_unplaced : (refusal : Refusal) → AreDispatched strategy client parts picks (Err refusal) → IsPlanned strategy client (command_call command order number) picks (Err refusal)
          command_unplaced refusal d =
              let all = fit_parts parts are fits in
              record {
                planned = plan_refused strategy client (command_call command order number) picks parts refusal all d;
                picked = picks_made strategy client (command_call command order number) picks parts (Err refusal) all d;
              }

          pub command_planned : (ds : List Dispatch) → AreDispatched strategy client parts picks (Ok ds) → IsPlanned strategy client (command_call command order number) picks (Ok (in_order order ds))
          command_planned ds d =
              let all = fit_parts parts are fits in
              record {
                planned = plan_made strategy client (command_call command order number) picks parts ds all d ∙ ap (λ o. Ok (in_order o ds)) command_order;
                picked = picks_made strategy client (command_call command order number) picks parts (Ok ds) all d;
              }
