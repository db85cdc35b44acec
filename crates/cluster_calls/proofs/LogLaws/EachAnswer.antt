-- The one answer to a pipeline from the outcomes of its positions.
use Rattle.std.specs.List.{list_any, AllByRecursion}
use Rattle.std.proofs.Common.{◌≡◌, Bool, true, false, cond, List, [], ◌∷◌, map, None, Result, Ok, Err, MatchResult, refl, sym, ap, ◌∙◌, subst}
use Rattle.std.proofs.lemmas.Bool.{false≢true}
use Rattle.resp_core.specs.Trees.{Tree}
use Rattle.resp_core.specs.Errors.{Refusal}
use Rattle.cluster_routing.specs.Address.{Address}
use Rattle.cluster_routing.specs.Combine.{array_of}
use Rattle.cluster_routing.specs.Lists.{concat, Pairwise}
use Rattle.cluster_calls.specs.Links.Converted.{value_answer}
use Rattle.cluster_calls.specs.Links.Faults.{LinkFault, refusal_by_fault}
use Rattle.cluster_calls.specs.Links.Log.{Exchange, requests, is_unanswered, has_lost}
use Rattle.cluster_calls.specs.Links.PipeReplies.{errors_in, pipeline_result}
use Rattle.cluster_calls.specs.Calls.Answer.{Value}
use Rattle.cluster_calls.specs.Calls.Call.{Entry}
use Rattle.cluster_calls.specs.Calls.Each.{link_refusal, reply_in, reply_outcome, outcome_of, position_exchanges, each_of, answer_of_each}
use Rattle.cluster_calls.specs.Calls.Legal.{direct, NodeByNode, node_groups}
use Rattle.cluster_calls.specs.Calls.Parts.{result_then, unless}
use Rattle.cluster_calls.specs.Calls.Plan.{Client, Dispatch}
use Rattle.cluster_calls.specs.Calls.Refusals.{errors_from, errors_refusal, pipeline_refusal}
use Rattle.cluster_calls.specs.Calls.Replies.{in_pipeline_order, pipeline_reply, not_ignored, reply_or_nil}
use Rattle.cluster_calls.specs.Calls.Task.{first_refusal}
use Rattle.cluster_calls.specs.OneServer.Fates.{OutcomesMakeTheAnswer}
use Rattle.cluster_calls.proofs.LinkLaws.PipeErrors.{all_answered, lost_unanswered, same_errors, value_or}
use Rattle.cluster_calls.proofs.LogLaws.Fates.{pipe_dispatches}
use Rattle.cluster_calls.proofs.LogLaws.PipesOnce.{all_asked}
use Rattle.cluster_calls.proofs.ServerLaws.PipeOrder.{order_is_theirs}
use Rattle.cluster_calls.proofs.ServerLaws.Pipes.{IsPipeDispatch, IsEntryDispatch}
use Rattle.cluster_calls.proofs.ServerLaws.ReplyOutcomes.{reply_tells}

-- ---- where no request was lost

none_lost : (xs : List Exchange) → list_any is_unanswered xs ≡ false → (a : Address) → has_lost a xs ≡ false
none_lost xs e a = by (has_lost a xs) refl
  where
    by : (b : Bool) → has_lost a xs ≡ b → b ≡ false
    by true l = absurd (false≢true (sym e ∙ lost_unanswered a xs l))
    by false l = refl

-- the outcomes are the replies
abbrev replied : List Exchange → List (Result Tree Refusal)
replied ws = map (λ x. reply_outcome (reply_or_nil x)) ws

all_told : (refusals : Address → Refusal) (xs ws : List Exchange) → ((a : Address) → has_lost a xs ≡ false) → map (outcome_of refusals xs) ws ≡ replied ws
all_told refusals xs [] none = refl
all_told refusals xs (w ∷ ws) none =
    ap (λ b. cond b (Err (refusals w.request.node)) (reply_outcome (reply_or_nil w)) ∷ map (outcome_of refusals xs) ws) (none w.request.node) ∙ ap (λ os. reply_outcome (reply_or_nil w) ∷ os) (all_told refusals xs ws none)

none_refused : (ws : List Exchange) → first_refusal (map link_refusal (replied ws)) ≡ None
none_refused [] = refl
none_refused (w ∷ ws) = ap (λ o. first_refusal (o ∷ map link_refusal (replied ws))) (reply_tells (reply_or_nil w)).0 ∙ none_refused ws

replies_told : (ws : List Exchange) → map reply_in (replied ws) ≡ map reply_or_nil ws
replies_told [] = refl
replies_told (w ∷ ws) = ap (λ t. t ∷ map reply_in (replied ws)) (reply_tells (reply_or_nil w)).1 ∙ ap (λ ts. reply_or_nil w ∷ ts) (replies_told ws)

-- ---- the answer

module _ (client : Client) (faults : Address → LinkFault) (entries : List Entry) (ds : List Dispatch) (xs : List Exchange)
    (facts : AllByRecursion (IsPipeDispatch client) ds × Pairwise IsEntryDispatch entries ds)
    (asked : requests xs ≡ map direct (concat (node_groups ds))) (none : list_any is_unanswered xs ≡ false) where
  abbrev order : List Exchange
  order = in_pipeline_order entries xs

  abbrev refusals : Address → Refusal
  refusals a = refusal_by_fault (faults a)

  answer : unless (pipeline_refusal faults xs (errors_from 0 order)) (Ok (Value (pipeline_reply entries xs))) ≡ value_answer (answer_of_each entries (each_of refusals ds xs))
  answer =
      let ws = position_exchanges ds xs in
      let is_order : order ≡ ws = order_is_theirs client entries ds xs facts asked in
      let ts = map reply_or_nil order in
      ap (λ why. unless why (Ok (Value (pipeline_reply entries xs)))) (all_answered faults xs (errors_from 0 order) none ∙ ap errors_refusal (same_errors 0 order))
      ∙ sym (value_or (errors_refusal (errors_in 0 ts)) (array_of (not_ignored entries ts)))
      ∙ ap (λ us. value_answer (pipeline_result entries us)) (ap (map reply_or_nil) is_order ∙ sym (replies_told ws))
      ∙ sym (ap (λ why. value_answer (unless why (pipeline_result entries (map reply_in (replied ws))))) (none_refused ws))
      ∙ sym (ap (λ os. value_answer (answer_of_each entries os)) (all_told refusals xs ws (none_lost xs none)))

pub answer_by_outcomes : OutcomesMakeTheAnswer
answer_by_outcomes client picks faults entries ds xs planned asked none = (
  subst (λ o. MatchResult o (λ ds. NodeByNode (node_groups ds) xs) (λ refusal. xs ≡ [])) (sym planned) (all_asked (node_groups ds) xs asked none),
  ap (λ o. result_then o (λ ds. unless (pipeline_refusal faults xs (errors_from 0 (in_pipeline_order entries xs))) (Ok (Value (pipeline_reply entries xs))))) planned
      ∙ answer client faults entries ds xs (pipe_dispatches client picks entries ds planned) asked none,
)
