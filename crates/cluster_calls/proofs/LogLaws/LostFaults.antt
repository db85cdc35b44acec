-- The answers of a transaction, and of a pipeline that tells of each position, ask for the faults of no links but
-- those on which a reply is missing.
use Rattle.std.specs.Prelude.{◌&&◌, ◌||◌}
use Rattle.std.specs.List.{AllByRecursion}
use Rattle.std.proofs.Common.{◌≡◌, ℕ, zero, suc, ◌-◌, Bool, true, false, cond, List, [], ◌∷◌, map, length, drop, Option, Some, Result, Err, refl, ap, ◌∙◌, subst}
use Rattle.std.proofs.lemmas.Bool.{false≢true}
use Rattle.resp_core.specs.Trees.{Tree}
use Rattle.resp_core.specs.Errors.{Refusal}
use Rattle.resp_args.specs.Command.{Command}
use Rattle.cluster_routing.specs.Address.{Address, same_address}
use Rattle.cluster_calls.specs.Calls.OneSlot.{args_of}
use Rattle.cluster_calls.specs.Calls.Parts.{unless}
use Rattle.cluster_calls.specs.Calls.Plan.{Client}
use Rattle.cluster_calls.specs.Calls.Transactions.{attempt_answer, attempt_count, commands_answer, last_attempt, lost_refusal, next_attempt, replies_in, sent_answer, size, unless_lost}
use Rattle.cluster_calls.specs.Links.Faults.{LinkFault, refusal_by_fault}
use Rattle.cluster_calls.specs.Links.Log.{Exchange, has_lost, is_unanswered}
use Rattle.cluster_calls.specs.Calls.Call.{Entry}
use Rattle.cluster_calls.specs.Calls.Each.{outcome_of, reply_outcome}
use Rattle.cluster_calls.specs.Calls.EachInParts.{outcomes_by_parts, positions_told}
use Rattle.cluster_calls.specs.Calls.InParts.{in_parts, splits_in}
use Rattle.cluster_calls.specs.Calls.Replies.{in_pipeline_order, reply_or_nil}
use Rattle.cluster_calls.proofs.LinkLaws.Addresses.{same_true}

module _ (faults faults' : Address → LinkFault) where
  abbrev pub AgreeWhereLost : List Exchange → Type 0
  AgreeWhereLost xs = AllByRecursion (λ (x : Exchange). is_unanswered x ≡ true → faults x.request.node ≡ faults' x.request.node) xs

  lost_one : (u : Bool) (f g : LinkFault) (a b : Option Refusal) → (u ≡ true → f ≡ g) → a ≡ b → cond u (Some (refusal_by_fault f)) a ≡ cond u (Some (refusal_by_fault g)) b
  lost_one true f g a b h e = ap (λ k. Some (refusal_by_fault k)) (h refl)
  lost_one false f g a b h e = e

  lost_same : (xs : List Exchange) → AgreeWhereLost xs → lost_refusal faults xs ≡ lost_refusal faults' xs
  lost_same [] h = refl
  lost_same (x ∷ xs) h = lost_one (is_unanswered x) (faults x.request.node) (faults' x.request.node) (lost_refusal faults xs) (lost_refusal faults' xs) h.0 (lost_same xs h.1)

  drop_agree : (n : ℕ) (xs : List Exchange) → AgreeWhereLost xs → AgreeWhereLost (drop n xs)
  drop_agree zero xs h = h
  drop_agree (suc n) [] h = tt
  drop_agree (suc n) (x ∷ xs) h = drop_agree n xs h.1

  sent_same : (client : Client) (commands : List (List (List ℕ))) (xs : List Exchange) → AgreeWhereLost xs → sent_answer client faults commands xs ≡ sent_answer client faults' commands xs
  sent_same client commands xs h =
      let ys = last_attempt commands xs in
      let redirects = suc client.settings.budget - attempt_count commands xs in
      ap (λ o. unless o (unless_lost (next_attempt client.links redirects (replies_in ys)) (attempt_answer (replies_in ys)))) (lost_same ys (drop_agree (length xs - size commands) xs h))

  pub commands_same : (client : Client) (commands : List Command) (xs : List Exchange) → AgreeWhereLost xs → commands_answer client faults commands xs ≡ commands_answer client faults' commands xs
  commands_same client [] xs h = refl
  commands_same client (c ∷ cs) xs h = sent_same client (args_of (c ∷ cs)) xs h

  -- ---- the positions of a pipeline

  lost_agrees : (xs : List Exchange) → AgreeWhereLost xs → (a : Address) → has_lost a xs ≡ true → faults a ≡ faults' a
  lost_agrees [] h a l = absurd (false≢true l)
  lost_agrees (x ∷ xs) h a l = by (same_address x.request.node a) refl (is_unanswered x) refl l (λ k. lost_agrees xs h.1 a k)
    where
      by : (s : Bool) → same_address x.request.node a ≡ s → (u : Bool) → is_unanswered x ≡ u → ((s && u) || has_lost a xs) ≡ true → (has_lost a xs ≡ true → faults a ≡ faults' a) → faults a ≡ faults' a
      by true s true u k ih = subst (λ n. faults n ≡ faults' n) (same_true x.request.node a s) (h.0 u)
      by true s false u k ih = ih k
      by false s u e k ih = ih k

  told_same : (xs : List Exchange) → AgreeWhereLost xs → (ws : List Exchange) → map (outcome_of (λ node. refusal_by_fault (faults node)) xs) ws ≡ map (outcome_of (λ node. refusal_by_fault (faults' node)) xs) ws
  told_same xs h [] = refl
  told_same xs h (w ∷ ws) = by (has_lost w.request.node xs) refl (told_same xs h ws)
    where
      others : (Address → LinkFault) → List (Result Tree Refusal)
      others f = map (outcome_of (λ node. refusal_by_fault (f node)) xs) ws

      by : (b : Bool) → has_lost w.request.node xs ≡ b → others faults ≡ others faults'
          → cond b (Err (refusal_by_fault (faults w.request.node))) (reply_outcome (reply_or_nil w)) ∷ others faults ≡ cond b (Err (refusal_by_fault (faults' w.request.node))) (reply_outcome (reply_or_nil w)) ∷ others faults'
      by true l e = ap (λ f. Err (refusal_by_fault f) ∷ others faults) (lost_agrees xs h w.request.node l) ∙ ap (λ os. Err (refusal_by_fault (faults' w.request.node)) ∷ os) e
      by false l e = ap (λ os. reply_outcome (reply_or_nil w) ∷ os) e

  pub each_same : (entries : List Entry) (xs : List Exchange) → AgreeWhereLost xs → positions_told (λ node. refusal_by_fault (faults node)) entries xs ≡ positions_told (λ node. refusal_by_fault (faults' node)) entries xs
  each_same entries xs h = ap (outcomes_by_parts (splits_in entries)) (told_same xs h (in_pipeline_order (in_parts entries) xs))
