-- What is prepared for a command, from the code's parts and dispatches.
use Rattle.std.specs.Prelude.{IfSome, is_some}
use Rattle.std.proofs.Common.{◌≡◌, ℕ, true, false, List, [], ◌∷◌, map, length, Option, Some, option_map, Ok, Err, sym, ap, ◌∙◌, subst}
use Rattle.std.proofs.lemmas.List.{length-map}
use Rattle.resp_core.specs.Errors.{Refusal, by_cause}
use Rattle.resp_core.specs.declared.errors.redis_error.Cause.TheVariants.{BadOrder}
use Rattle.resp_args.specs.Command.{Command}
use Rattle.resp_args.specs.Packed.{sent}
use Rattle.cluster_routing.specs.Address.{Address}
use Rattle.cluster_routing.specs.Choice.{Strategy}
use Rattle.cluster_routing.specs.Seen.{address}
use Rattle.cluster_routing.specs.Info.{shown_parts, shown_split, texts}
use Rattle.cluster_routing.specs.Split.{has_split_word, parts_by_place}
use Rattle.cluster_routing.specs.declared.split.SplitParts.{SplitParts}
use Rattle.cluster_steps.specs.Requests.{CodeDispatch}
use Rattle.cluster_steps.specs.Requests.{CodePart}
use Rattle.cluster_steps.specs.Dispatches.{AreDispatched, IsPlanned, dispatch_of}
use Rattle.cluster_steps.specs.CodeParts.{part_targets, routed_at, routed_part, split_in, targets_by}
use Rattle.cluster_steps.specs.FirstPlaces.{part_of, target_of}
use Rattle.cluster_steps.specs.declared.route.Target.{Target as CodeTarget}
use Rattle.cluster_steps.specs.declared.route.Targets.{Targets as CodeTargets}
use Rattle.cluster_steps.specs.declared.route.Targets.TheVariants as targets
use Rattle.cluster_calls.specs.Links.Orders.{command_call}
use Rattle.cluster_calls.specs.Calls.Parts.{Target, fits_order, part_to, parts_of}
use Rattle.cluster_calls.specs.Calls.Plan.{Client, in_order}
use Rattle.cluster_steps.proofs.Directions.{parts_are, whole_part_is}
use Rattle.cluster_steps.proofs.Dispatched.{command_planned, command_unfit, command_unplaced}
use Rattle.cluster_calls.proofs.LinkLaws.Ordering.{made_in_order, one_in_order}
use Rattle.cluster_steps.proofs.PartReplies.{dispatches_fit, routes_fit}

-- the parts that were pushed for a command that is split
pub pushed_parts : (command : Command) (read_only : List (List ℕ)) → command.no_response ≡ false → (split : SplitParts) → Some (shown_split split) ≡ parts_by_place command.args read_only → (list : List CodePart)
    → map part_of list ≡ map routed_part (map (routed_at command.args) (shown_parts split.routes.items)) → (number : ℕ) → parts_of read_only command number ≡ Ok (map part_of list)
pushed_parts command read_only response split is list pushed number = parts_are command read_only number response (shown_split split) is ∙ ap (λ ps. Ok ps) (sym pushed)

module _ (client : Client) (command : Command) (order : Option (List ℕ)) (number : ℕ) (list : List CodePart) (are : parts_of client.settings.read_only command number ≡ Ok (map part_of list)) where
  -- the order does not fit
  pub prepared_unfit : (strategy : Option Strategy) → fits_order order (length list) ≡ false → IsPlanned strategy client (command_call command order number) [] (Err (by_cause BadOrder))
  prepared_unfit strategy f = command_unfit command order number client strategy (map part_of list) are (ap (fits_order order) (length-map list part_of) ∙ f)

  module _ (fits : fits_order order (length list) ≡ true) where
    parts_fit : fits_order order (length (map part_of list)) ≡ true
    parts_fit = ap (fits_order order) (length-map list part_of) ∙ fits

    pub prepared_routes : (split : Option SplitParts) → option_map shown_split split ≡ parts_by_place command.args client.settings.read_only → IfSome split (λ (s : SplitParts). fits_order order (length s.routes.items) ≡ true)
    prepared_routes split is = routes_fit order client.settings.read_only command number (map part_of list) split are is parts_fit

    module _ (strategy : Option Strategy) (picks : List Address) where
      -- a part has no place
      pub prepared_unplaced : (refusal : Refusal) → AreDispatched strategy client (map part_of list) picks (Err refusal) → IsPlanned strategy client (command_call command order number) picks (Err refusal)
      prepared_unplaced refusal d = command_unplaced command order number client strategy (map part_of list) are parts_fit picks refusal d

      module _ (ds : List CodeDispatch) (d : AreDispatched strategy client (map part_of list) picks (Ok (map dispatch_of ds))) where
        pub prepared_dispatches : fits_order order (length ds) ≡ true
        prepared_dispatches = ap (fits_order order) (sym (length-map ds dispatch_of)) ∙ dispatches_fit order strategy client (map part_of list) picks (map dispatch_of ds) d parts_fit

        pub prepared_planned : (sent : List CodeDispatch) → sent ≡ in_order order ds → IsPlanned strategy client (command_call command order number) picks (Ok (map dispatch_of sent))
        prepared_planned sent e =
            let moved : in_order order (map dispatch_of ds) ≡ map dispatch_of sent = sym (made_in_order dispatch_of order ds) ∙ ap (map dispatch_of) (sym e) in
            subst (λ es. IsPlanned strategy client (command_call command order number) picks (Ok es)) moved (command_planned command order number client strategy (map part_of list) are parts_fit picks (map dispatch_of ds) d)

-- ---- a command that goes whole

-- it has one part, where the code has one target
pub alone_at : (command : Command) (read_only : List (List ℕ)) (number : ℕ) → command.no_response ≡ false → (target : CodeTarget) (made : CodeTargets) → made ≡ targets.Whole target → is_some (split_in made) ≡ has_split_word command.args
    → targets_by (Ok made) ≡ part_targets (parts_of read_only command number) → parts_of read_only command number ≡ Ok (part_to (sent command) (target_of target) ∷ [])
alone_at command read_only number response target made is word e = whole_part_is command read_only number response (target_of target) (sym word ∙ ap (λ t. is_some (split_in t)) is) (rw is at e)

pub planned_alone : (client : Client) (command : Command) (order : Option (List ℕ)) (number : ℕ) (target : Target) → parts_of client.settings.read_only command number ≡ Ok (part_to (sent command) target ∷ []) → fits_order order 1 ≡ true
    → (strategy : Option Strategy) (picks : List Address) (made : CodeDispatch) → texts made.args.items ≡ sent command
    → AreDispatched strategy client (part_to (sent command) target ∷ []) picks (Ok (record { node = address made.to.node; args = sent command } ∷ [])) → IsPlanned strategy client (command_call command order number) picks (Ok (dispatch_of made ∷ []))
planned_alone client command order number target are fits strategy picks made args d =
    subst (λ ds. IsPlanned strategy client (command_call command order number) picks (Ok ds))
    (one_in_order order (record { node = address made.to.node; args = sent command }) fits ∙ ap (λ as'. record { node = address made.to.node; args = as' } ∷ []) (sym args))
    (command_planned command order number client strategy (part_to (sent command) target ∷ []) are fits picks (record { node = address made.to.node; args = sent command } ∷ []) d)
