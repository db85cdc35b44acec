-- What became of each position of a pipeline that tells of each.
use Rattle.std.specs.Prelude.{is_none, unwrap_or}
use Rattle.std.specs.List.{AllByRecursion}
use Rattle.std.proofs.Common.{◌≡◌, suc, Bool, true, false, cond, List, [], ◌∷◌, map, length, Option, Some, None, Result, Ok, Err, refl, sym, ap, ◌∙◌, subst}
use Rattle.std.proofs.lemmas.Bool.{false≢true}
use Rattle.std.proofs.lemmas.List.{length-map}
use Rattle.resp_core.specs.Trees.{Tree, nil}
use Rattle.resp_core.specs.Errors.{Refusal}
use Rattle.cluster_routing.specs.Address.{Address}
use Rattle.cluster_routing.specs.Lists.{Pairwise}
use Rattle.cluster_calls.specs.Links.EachMade.{refusals_of}
use Rattle.cluster_calls.specs.Links.Events.{exchanges_of}
use Rattle.cluster_calls.specs.Links.Happened.{client_of}
use Rattle.cluster_calls.specs.Links.Log.{Exchange, has_lost}
use Rattle.cluster_calls.specs.Links.Reply.{sort_of}
use Rattle.cluster_calls.specs.Links.Request.{Request}
use Rattle.cluster_calls.specs.Links.World.{World, link_at, is_usable}
use Rattle.cluster_calls.specs.Calls.Call.{Entry, Pipeline}
use Rattle.cluster_calls.specs.Calls.Each.{Fate, answered, redirected, lost, fate_of, reply_outcome, outcome_of, position_exchanges}
use Rattle.cluster_calls.specs.Calls.Parts.{Part, pipeline_parts, result_then}
use Rattle.cluster_calls.specs.Calls.Plan.{Client, Dispatch, dispatches, plan}
use Rattle.cluster_calls.specs.OneServer.Fates.{FateSays, HaveFates, EachPositionHasItsFate}
use Rattle.cluster_calls.specs.OneServer.Laws.{is_redirect_sort, is_redirect_reply}
use Rattle.cluster_calls.specs.Calls.InParts.{in_parts, split_at, splits_in}
use Rattle.cluster_calls.proofs.LinkLaws.EventLists.{exchanged}
use Rattle.cluster_calls.proofs.LinkLaws.Told.{lost_closed, refusals_lose}
use Rattle.cluster_calls.proofs.LogLaws.FatesOfParts.{as_many, fates_of_parts}
use Rattle.cluster_calls.proofs.LogLaws.EachPosition.{IsItsOwn, positions_drawn}
use Rattle.cluster_calls.proofs.LogLaws.Gaps.{every_gap_names_no_key}
use Rattle.cluster_calls.proofs.LogLaws.PipePlans.{pipeline_nodes, pipeline_parts_are}
use Rattle.cluster_calls.proofs.LogLaws.Plans.{dispatches_for}
use Rattle.cluster_calls.proofs.ServerLaws.Pipes.{IsPipeDispatch, IsEntryDispatch, dispatch_facts}
use Rattle.cluster_calls.proofs.ServerLaws.ReplyOutcomes.{reply_fate}

-- ---- one position

module _ (new : World) (xs : List Exchange) (refusals : Address → Refusal)
    (lose : (a : Address) → fate_of (Err (refusals a)) ≡ lost)
    (closed : (a : Address) → has_lost a xs ≡ true → is_usable (link_at new.nodes a) ≡ false) where
  -- its exchange was lost or replied
  position_fate : (d : Dispatch) (x : Exchange) → IsItsOwn xs d x → FateSays new xs d x (outcome_of refusals xs x) (fate_of (outcome_of refusals xs x))
  position_fate d x its = by (has_lost x.request.node xs) refl
    where
      Says : Result Tree Refusal → Fate → Type 0
      Says outcome fate = FateSays new xs d x outcome fate

      node : x.request.node ≡ d.node
      node = ap (λ (q : Request). q.node) its.0

      redirect : (t : Tree) → x.reply ≡ Some t → has_lost x.request.node xs ≡ false → (b : Bool) → is_redirect_sort (sort_of t) ≡ b → Says (reply_outcome t) (cond b redirected answered)
      redirect t r l true s = record { reply = t; request = its.0; replied = r; outcome_is = refl; redirect = ap is_redirect_reply r ∙ s; link_answered = subst (λ n. has_lost n xs ≡ false) node l }
      redirect t r l false s = record { reply = t; request = its.0; replied = r; outcome_is = refl; redirect = ap is_redirect_reply r ∙ s; link_answered = subst (λ n. has_lost n xs ≡ false) node l }

      replied : (o : Option Tree) → x.reply ≡ o → has_lost x.request.node xs ≡ false → Says (reply_outcome (unwrap_or o nil)) (fate_of (reply_outcome (unwrap_or o nil)))
      replied None r l = absurd (false≢true (sym l ∙ its.1 (ap is_none r)))
      replied (Some t) r l = subst (Says (reply_outcome t)) (sym (reply_fate t)) (redirect t r l (is_redirect_sort (sort_of t)) refl)

      by : (b : Bool) → has_lost x.request.node xs ≡ b
          → Says (cond b (Err (refusals x.request.node)) (reply_outcome (unwrap_or x.reply nil))) (fate_of (cond b (Err (refusals x.request.node)) (reply_outcome (unwrap_or x.reply nil))))
      by true l =
          let here = subst (λ n. has_lost n xs ≡ true) node l in
          subst (Says (Err (refusals x.request.node))) (sym (lose x.request.node)) (record { request = its.0; link_refused = here; closed = closed d.node here })
      by false l = replied x.reply refl l

  position_fates : (ds : List Dispatch) (its : List Exchange) → Pairwise (IsItsOwn xs) ds its → HaveFates new xs ds its (map (outcome_of refusals xs) its)
  position_fates [] [] h = tt
  position_fates [] (x ∷ its) h = absurd h
  position_fates (d ∷ ds) [] h = absurd h
  position_fates (d ∷ ds) (x ∷ its) h = (position_fate d x h.0, position_fates ds its h.1)

-- ---- all positions

pub pairwise_length : {A B : Type 0} (R : A → B → Type 0) (xs : List A) (ys : List B) → Pairwise R xs ys → length ys ≡ length xs
pairwise_length R [] [] h = refl
pairwise_length R [] (y ∷ ys) h = absurd h
pairwise_length R (x ∷ xs) [] h = absurd h
pairwise_length R (x ∷ xs) (y ∷ ys) h = ap suc (pairwise_length R xs ys h.1)

as_they_are : (o : Result (List Dispatch) Refusal) (ds : List Dispatch) → result_then o (λ ds. Ok ds) ≡ Ok ds → o ≡ Ok ds
as_they_are (Ok es) ds e = e
as_they_are (Err refusal) ds e = cc

-- the dispatches of a pipeline, each for its command
pub pipe_dispatches : (client : Client) (picks : List Address) (entries : List Entry) (ds : List Dispatch) → plan client picks (Pipeline entries) ≡ Ok ds → AllByRecursion (IsPipeDispatch client) ds × Pairwise IsEntryDispatch entries ds
pipe_dispatches client picks entries ds e = by (pipeline_parts 0 entries) refl e
  where
    by : (o : Result (List Part) Refusal) → pipeline_parts 0 entries ≡ o → result_then o (λ parts. result_then (dispatches client picks parts) (λ ds. Ok ds)) ≡ Ok ds → AllByRecursion (IsPipeDispatch client) ds × Pairwise IsEntryDispatch entries ds
    by (Err refusal) p e = cc
    by (Ok parts) p e =
        let d = as_they_are (dispatches client picks parts) ds e in
        let w = pipeline_parts_are every_gap_names_no_key entries 0 parts p in
        dispatch_facts client entries parts ds w (dispatches_for client parts picks ds d) (pipeline_nodes client entries parts picks ds w d)

pub positions_known : EachPositionHasItsFate
positions_known strategy old new entries outcomes made place =
    let events = made.happened.events in
    let xs = exchanges_of place events in
    let ds = made.told.dispatches in
    let es = in_parts entries in
    let its = position_exchanges ds xs in
    let drawn = positions_drawn ds xs (exchanged events place ∙ made.told.sent) in
    record {
      parts = record {
        fates = position_fates new xs (refusals_of events) (refusals_lose events) (λ a l. lost_closed old.nodes new.nodes events place made.happened.runs a l) ds its drawn.0;
        log = exchanged events place ∙ sym made.happened.logged;
        own = drawn.1;
        whole = length-map its (outcome_of (refusals_of events) xs) ∙ pairwise_length _ ds its drawn.0 ∙ pairwise_length IsEntryDispatch es ds (pipe_dispatches (client_of old) new.picked es ds made.told.planned).1;
      };
      positions = fates_of_parts (splits_in entries) _ outcomes (made.told.each place);
      whole = as_many (splits_in entries) _ outcomes (made.told.each place) ∙ length-map entries split_at;
    }
