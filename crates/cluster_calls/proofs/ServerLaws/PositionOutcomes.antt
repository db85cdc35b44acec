-- What the outcome of each position says of its exchanges: where it is a value that holds no error each was answered,
-- and where it was sent on none was done.
use Rattle.std.proofs.Common.{◌≡◌, ℕ, Bool, true, false, cond, nat_eq, List, [], ◌∷◌, map, Option, Some, None, Result, Ok, Err, refl, sym, ap, ◌∙◌, subst}
use Rattle.std.specs.Prelude.{is_none, unwrap_or}
use Rattle.std.specs.List.{AllByRecursion}
use Rattle.std.proofs.lemmas.Bool.{false≢true}
use Rattle.std.proofs.lemmas.Simd.{map-map}
use Rattle.resp_core.specs.Trees.{Tree, nil}
use Rattle.resp_core.specs.Errors.{Refusal, by_cause}
use Rattle.resp_core.specs.declared.errors.redis_error.Cause.TheVariants.{UnexpectedReturnType}
use Rattle.cluster_routing.specs.Address.{Address}
use Rattle.cluster_routing.specs.Combine.{PartReply, combine, part_replies}
use Rattle.cluster_routing.specs.Lists.{IsDistinct}
use Rattle.cluster_routing.specs.Parts.{tuple_slot}
use Rattle.cluster_routing.specs.Policies.{or_bad_reply}
use Rattle.cluster_routing.specs.Split.{Split, part_slots}
use Rattle.cluster_calls.specs.Links.Faults.{LinkFault, io, grammar, no_memory, refusal_by_fault}
use Rattle.cluster_calls.specs.Links.Log.{Exchange, is_answered, is_data_reply, has_lost}
use Rattle.cluster_calls.specs.Calls.Each.{redirected, fate_of, link_refusal, reply_in, reply_outcome, outcome_of}
use Rattle.cluster_calls.specs.Calls.EachInParts.{are_of_one_fate, refusal_of_parts, reply_in_parts, outcome_by_parts}
use Rattle.cluster_calls.specs.Calls.Parts.{unless}
use Rattle.cluster_calls.specs.Calls.Refusals.{refusal_in}
use Rattle.cluster_calls.specs.Calls.Replies.{exchange_slot, reply_or_nil}
use Rattle.cluster_calls.specs.Calls.Task.{first_refusal}
use Rattle.cluster_calls.specs.OneServer.Fates.{FateOfParts}
use Rattle.cluster_calls.specs.OneServer.Meaning.{IsData}
use Rattle.cluster_calls.proofs.LogLaws.EachPosition.{LosesItsNode}
use Rattle.cluster_calls.proofs.LogLaws.FatesOfParts.{refused_fate}
use Rattle.cluster_calls.proofs.ServerLaws.Counted.{IsPassed, tree_answered}
use Rattle.cluster_calls.proofs.ServerLaws.Distinct.{firsts_distinct}
use Rattle.cluster_calls.proofs.ServerLaws.NoErrors.{parts_without}
use Rattle.cluster_calls.proofs.ServerLaws.OnePosition.{AskFor, Says, its_reply}
use Rattle.cluster_calls.proofs.ServerLaws.ReplyOutcomes.{sent_on_no_data, value_reply}

fault_not_sent_on : (fault : LinkFault) → fate_of (Err (refusal_by_fault fault)) ≡ redirected → ⊥
fault_not_sent_on io e = cc
fault_not_sent_on grammar e = cc
fault_not_sent_on no_memory e = cc

-- parts of which none refuses
none_refuses : (os : List (Result Tree Refusal)) → refusal_of_parts os ≡ None → first_refusal (map refusal_in os) ≡ None
none_refuses os e = by (are_of_one_fate os) e
  where
    by : (b : Bool) → cond b (first_refusal (map refusal_in os)) (Some (unwrap_or (first_refusal (map link_refusal os)) (by_cause UnexpectedReturnType))) ≡ None → first_refusal (map refusal_in os) ≡ None
    by true f = f
    by false f = cc

made_of : (o : Option Tree) (tree : Tree) → or_bad_reply o ≡ Ok tree → o ≡ Some tree
made_of None tree e = cc
made_of (Some t) tree e = let same : t ≡ tree = cc in ap Some same

made_not_sent_on : (o : Option Tree) → fate_of (or_bad_reply o) ≡ redirected → ⊥
made_not_sent_on None e = cc
made_not_sent_on (Some t) e = cc

slot_replies : (ys : List Exchange) → part_replies (map exchange_slot ys) (map reply_or_nil ys) ≡ map its_reply ys
slot_replies [] = refl
slot_replies (y ∷ ys) = ap (λ q. its_reply y ∷ q) (slot_replies ys)

module _ (faults : Address → LinkFault) (xs : List Exchange) where
  abbrev pub told : Exchange → Result Tree Refusal
  told y = outcome_of (λ node. refusal_by_fault (faults node)) xs y

  -- ---- one exchange

  value_told : (y : Exchange) → LosesItsNode xs y → (value : Tree) → told y ≡ Ok value → y.reply ≡ Some value
  value_told y loses value e = by (has_lost y.request.node xs) refl y.reply refl e
    where
      by : (b : Bool) → has_lost y.request.node xs ≡ b → (r : Option Tree) → y.reply ≡ r → cond b (Err (refusal_by_fault (faults y.request.node))) (reply_outcome (unwrap_or r nil)) ≡ Ok value → y.reply ≡ Some value
      by true l r q e = cc
      by false l None q e = absurd (false≢true (sym l ∙ loses (ap is_none q)))
      by false l (Some t) q e = q ∙ ap Some (value_reply t value e)

  sent_on_told : (y : Exchange) → LosesItsNode xs y → fate_of (told y) ≡ redirected → IsPassed y
  sent_on_told y loses e = by (has_lost y.request.node xs) refl y.reply refl e
    where
      by : (b : Bool) → has_lost y.request.node xs ≡ b → (r : Option Tree) → y.reply ≡ r → fate_of (cond b (Err (refusal_by_fault (faults y.request.node))) (reply_outcome (unwrap_or r nil))) ≡ redirected → IsPassed y
      by true l r q e = absurd (fault_not_sent_on (faults y.request.node) e)
      by false l None q e = absurd (false≢true (sym l ∙ loses (ap is_none q)))
      by false l (Some t) q e = (ap is_data_reply q ∙ sent_on_no_data t e, ap is_none q)

  -- ---- a command that goes whole

  whole_says : (y : Exchange) → LosesItsNode xs y → Says None (y ∷ []) (outcome_by_parts None (map told (y ∷ [])))
  whole_says y loses = record {
    given = λ tree e none.
        let v = value_told y loses tree e in ((ap is_data_reply v ∙ tree_answered tree none, tt), ap (λ r. Some (unwrap_or r nil)) v);
    sent_on = λ e. (sent_on_told y loses e, tt);
  }

  -- ---- a command in parts

  -- the exchange was answered, and its outcome is the value
  abbrev HasValue : Exchange → Type 0
  HasValue y = (value : Tree) × (y.reply ≡ Some value) × (told y ≡ Ok value)

  have_values : (ys : List Exchange) → AllByRecursion (LosesItsNode xs) ys → first_refusal (map refusal_in (map told ys)) ≡ None → AllByRecursion HasValue ys
  have_values [] loses e = tt
  have_values (y ∷ ys) loses e = by (told y) refl e (λ f. have_values ys loses.1 f)
    where
      by : (o : Result Tree Refusal) → told y ≡ o → first_refusal (refusal_in o ∷ map refusal_in (map told ys)) ≡ None → (first_refusal (map refusal_in (map told ys)) ≡ None → AllByRecursion HasValue ys) → HasValue y × AllByRecursion HasValue ys
      by (Ok value) t f ih = ((value, value_told y loses.0 value t, t), ih f)
      by (Err refusal) t f ih = cc

  replies_told : (ys : List Exchange) → AllByRecursion HasValue ys → map reply_in (map told ys) ≡ map reply_or_nil ys
  replies_told [] h = refl
  replies_told (y ∷ ys) h = ap (λ t. t ∷ map reply_in (map told ys)) (ap reply_in h.0.2 ∙ sym (ap (λ r. unwrap_or r nil) h.0.1)) ∙ ap (λ q. reply_or_nil y ∷ q) (replies_told ys h.1)

  values_answered : (ys : List Exchange) → AllByRecursion HasValue ys → AllByRecursion (λ (r : PartReply). IsData r.tree) (map its_reply ys) → AllByRecursion (λ x. is_answered x ≡ true) ys
  values_answered [] h d = tt
  values_answered (y ∷ ys) h d = (ap is_data_reply h.0.1 ∙ tree_answered h.0.0 (subst (λ r. IsData (unwrap_or r nil)) h.0.1 d.0), values_answered ys h.1 d.1)

  all_sent_on : (ys : List Exchange) → AllByRecursion (LosesItsNode xs) ys → AllByRecursion (λ (o : Result Tree Refusal). fate_of o ≡ redirected) (map told ys) → AllByRecursion IsPassed ys
  all_sent_on [] loses h = tt
  all_sent_on (y ∷ ys) loses h = (sent_on_told y loses.0 h.0, all_sent_on ys loses.1 h.1)

  parts_say : (split : Split) (ys : List Exchange) → map exchange_slot ys ≡ part_slots split.tuples → AllByRecursion (LosesItsNode xs) ys → Says (Some split) ys (outcome_by_parts (Some split) (map told ys))
  parts_say split ys slots loses = record { given = λ tree e none. given (refusal_of_parts (map told ys)) refl tree e none; sent_on = λ e. passed (refusal_of_parts (map told ys)) refl e }
    where
      given : (r : Option Refusal) → refusal_of_parts (map told ys) ≡ r → (tree : Tree) → unless r (reply_in_parts split (map reply_in (map told ys))) ≡ Ok tree → IsData tree
          → AllByRecursion (λ x. is_answered x ≡ true) ys × (combine split (map its_reply ys) ≡ Some tree)
      given (Some refusal) q tree e none = cc
      given None q tree e none =
          let values = have_values ys loses (none_refuses (map told ys) q) in
          let same : part_replies (part_slots split.tuples) (map reply_in (map told ys)) ≡ map its_reply ys =
          ap (λ ks. part_replies ks (map reply_in (map told ys))) (sym slots) ∙ ap (part_replies (map exchange_slot ys)) (replies_told ys values) ∙ slot_replies ys in
          let made : combine split (map its_reply ys) ≡ Some tree = ap (combine split) (sym same) ∙ made_of (combine split (part_replies (part_slots split.tuples) (map reply_in (map told ys)))) tree e in
          let distinct = subst (IsDistinct nat_eq) (sym (map-map (λ (r : PartReply). r.slot) its_reply ys ∙ slots)) (firsts_distinct nat_eq (map tuple_slot split.tuples)) in
          (values_answered ys values (parts_without split (map its_reply ys) distinct tree split.splitting.policy made none), made)

      passed : (r : Option Refusal) → refusal_of_parts (map told ys) ≡ r → fate_of (unless r (reply_in_parts split (map reply_in (map told ys)))) ≡ redirected → AllByRecursion IsPassed ys
      passed None q e = absurd (made_not_sent_on (combine split (part_replies (part_slots split.tuples) (map reply_in (map told ys)))) e)
      passed (Some refusal) q e = all_sent_on ys loses (subst (λ f. FateOfParts f (map told ys)) e (refused_fate (map told ys) refusal q))

  -- ---- each position

  pub position_says : (args : List (List ℕ)) (o : Option Split) (ys : List Exchange) → AskFor args o ys → AllByRecursion (LosesItsNode xs) ys → Says o ys (outcome_by_parts o (map told ys))
  position_says args None ys asked loses = subst (λ q. Says None q (outcome_by_parts None (map told q))) (sym asked.1) (whole_says asked.0 (subst (AllByRecursion (LosesItsNode xs)) asked.1 loses).0)
  position_says args (Some split) ys asked loses = parts_say split ys asked.2 loses
