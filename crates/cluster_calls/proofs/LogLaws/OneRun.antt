-- Runs of equal calls without a strategy are equal where the same replies are to come and the same links fail.
use Rattle.std.specs.Prelude.{option_and_then, is_none, slice_get, cond, ◌||◌, ◌&&◌}
use Rattle.std.specs.List.{AllByRecursion, list_any}
use Rattle.std.proofs.Common.{◌≡◌, ◌⊎◌, ℕ, zero, suc, ◌+◌, Bool, true, false, List, [], ◌∷◌, ◌++◌, map, length, drop, Option, Some, None, refl, sym, ap, ◌∙◌, subst, inl, inr, arith}
use Rattle.std.proofs.lemmas.Bool.{false≢true}
use Rattle.resp_core.specs.Trees.{Tree}
use Rattle.resp_core.specs.Errors.{Refusal}
use Rattle.cluster_routing.specs.Address.{Address, same_address}
use Rattle.cluster_routing.specs.Policies.{or_bad_reply}
use Rattle.cluster_routing.specs.Routing.{destination}
use Rattle.cluster_calls.specs.Links.Request.{Request, skipped}
use Rattle.cluster_calls.specs.Links.Log.{Exchange, exchanges, left_after, left_after_all, reply_at, is_unanswered, is_answered, last_of, has_lost, behind_answers}
use Rattle.cluster_calls.specs.Calls.Call.{Call}
use Rattle.cluster_calls.specs.Calls.Task.{Task, slot_map_of, one_command, pipeline_of, positions_of, several_nodes, one_node, read_of, task_of, transaction_of}
use Rattle.cluster_calls.specs.Calls.Parts.{result_then, unless}
use Rattle.cluster_calls.specs.Calls.Plan.{Client, plan}
use Rattle.cluster_calls.specs.Calls.Legal.{IsLegalCall}
use Rattle.cluster_calls.specs.Links.Faults.{LinkFault, refusal_by_fault}
use Rattle.cluster_calls.specs.Links.Run.{whole_log}
use Rattle.cluster_calls.specs.Calls.Replies.{outcome_by, outcomes, policy_in, reply_by_outcomes, in_pipeline_order, several_reply}
use Rattle.cluster_calls.specs.Calls.Refusals.{refusal_in, direct_refusal, last_refusal, pipeline_refusal, errors_from, sent_refusal}
use Rattle.cluster_calls.specs.Calls.Answer.{answer_in, task_answer, tree_in, answer_of, Told}
use Rattle.cluster_calls.specs.Calls.After.{client_after}
use Rattle.cluster_calls.specs.OneServer.Headline.{PlayedCall, RepliedCall, with_replies_from, IsPlayedFrom}
use Rattle.cluster_calls.proofs.LinkLaws.Addresses.{same_refl, same_true}
use Rattle.cluster_calls.proofs.LinkLaws.Pairing.{has_lost-append}
use Rattle.cluster_calls.proofs.LogLaws.SameLogs.{replies_determine_logs, exchanges_then}
use Rattle.cluster_calls.proofs.LogLaws.LostFaults.{commands_same, each_same}

-- ---- the same replies, the same faults

abbrev calls_of : List PlayedCall → List Call
calls_of ts = map (λ (t : PlayedCall). t.call) ts

abbrev here : (Address → List Tree) → ℕ → PlayedCall → List Exchange
here queues place t = exchanges queues place t.log

pub one_run : (client : Client) (faults : Address → LinkFault) (queues : Address → List Tree) (place : ℕ) (ts us : List PlayedCall) → calls_of ts ≡ calls_of us
    → IsPlayedFrom None client faults (with_replies_from queues place ts) → IsPlayedFrom None client faults (with_replies_from queues place us) → ts ≡ us
one_run client faults queues place [] [] c h k = refl
one_run client faults queues place [] (u ∷ us) c h k = cc
one_run client faults queues place (t ∷ ts) [] c h k = cc
one_run client faults queues place (t ∷ ts) (u ∷ us) c h k =
    let call : t.call ≡ u.call = cc in
    let calls : calls_of ts ≡ calls_of us = cc in
    let picks : t.picks ≡ u.picks = h.0 ∙ sym k.0 in
    let legal = subst (λ z. IsLegalCall client z t.call (here queues place u)) (sym picks) (subst (λ z. IsLegalCall client u.picks z (here queues place u)) (sym call) k.1) in
    let log : t.log ≡ u.log = replies_determine_logs client t.picks t.call queues place t.log u.log h.1 legal in
    let answer : t.answer ≡ u.answer = h.2
    ∙ ap (λ z. answer_of client z faults t.call (here queues place t)) picks
    ∙ ap (λ z. answer_of client u.picks faults z (here queues place t)) call
    ∙ ap (λ z. answer_of client u.picks faults u.call (exchanges queues place z)) log
    ∙ sym k.2 in
    let same : t ≡ u = whole t u call picks answer log in
    let later = subst (λ (z : PlayedCall). IsPlayedFrom None (client_after client z.call (here queues place z)) faults (with_replies_from (left_after_all queues z.log) (place + length z.log) us)) (sym same) k.3 in
    ap (λ z. z ∷ ts) same ∙ ap (λ zs. u ∷ zs) (one_run (client_after client t.call (here queues place t)) faults (left_after_all queues t.log) (place + length t.log) ts us calls h.3 later)
  where
    whole : (t u : PlayedCall) → t.call ≡ u.call → t.picks ≡ u.picks → t.answer ≡ u.answer → t.log ≡ u.log → t ≡ u
    whole t u a b c d = λ i. record { call = a i; picks = b i; answer = c i; log = d i }

-- ---- faults of links that lost nothing do not matter

module _ (faults faults' : Address → LinkFault) where
  abbrev SameFault : Exchange → Type 0
  SameFault x = is_unanswered x ≡ true → faults x.request.node ≡ faults' x.request.node

  abbrev SameFaults : List Exchange → Type 0
  SameFaults xs = AllByRecursion SameFault xs

  lost_node : (xs : List Exchange) → ((a : Address) → has_lost a xs ≡ true → faults a ≡ faults' a) → SameFaults xs
  lost_node [] h = tt
  lost_node (x ∷ xs) h = (
    λ u. h x.request.node (ap (λ b. (b && is_unanswered x) || has_lost x.request.node xs) (same_refl x.request.node) ∙ ap (λ b. b || has_lost x.request.node xs) u),
    lost_node xs (λ a l. h a (or_right (same_address x.request.node a && is_unanswered x) (has_lost a xs) l)),
  )
    where
      or_right : (b c : Bool) → c ≡ true → (b || c) ≡ true
      or_right true c e = refl
      or_right false c e = e

  outcome_same : (f g : LinkFault) (r : Option Tree) → (is_none r ≡ true → f ≡ g) → outcome_by f r ≡ outcome_by g r
  outcome_same f g None h = ap (λ k. outcome_by k None) (h refl)
  outcome_same f g (Some tree) h = refl

  outcomes_same : (xs : List Exchange) → SameFaults xs → outcomes faults xs ≡ outcomes faults' xs
  outcomes_same [] h = refl
  outcomes_same (x ∷ xs) h =
      ap (λ o. (x.request.node, o) ∷ outcomes faults xs) (outcome_same (faults x.request.node) (faults' x.request.node) x.reply h.0)
      ∙ ap (λ l. (x.request.node, outcome_by (faults' x.request.node) x.reply) ∷ l) (outcomes_same xs h.1)

  refresh_one : (f g : LinkFault) (r : Option Tree) → (is_none r ≡ true → f ≡ g) → direct_refusal f r ≡ direct_refusal g r
  refresh_one f g None h = ap (λ k. direct_refusal k None) (h refl)
  refresh_one f g (Some tree) h = refl

  refresh_same : (xs : List Exchange) → SameFaults xs → option_and_then (λ (x : Exchange). direct_refusal (faults x.request.node) x.reply) (last_of xs) ≡ option_and_then (λ (x : Exchange). direct_refusal (faults' x.request.node) x.reply) (last_of xs)
  refresh_same [] h = refl
  refresh_same (x ∷ []) h = refresh_one (faults x.request.node) (faults' x.request.node) x.reply h.0
  refresh_same (x ∷ y ∷ xs) h = refresh_same (y ∷ xs) h.1

  part_one : (client : Client) (n : ℕ) (f g : LinkFault) (r : Option Tree) → (is_none r ≡ true → f ≡ g) → last_refusal client n f r ≡ last_refusal client n g r
  part_one client n f g None h = ap (λ k. last_refusal client n k None) (h refl)
  part_one client n f g (Some tree) h = refl

  part_last : (client : Client) (n : ℕ) (xs : List Exchange) → SameFaults xs → option_and_then (λ (x : Exchange). last_refusal client n (faults x.request.node) x.reply) (last_of xs) ≡ option_and_then (λ (x : Exchange). last_refusal client n (faults' x.request.node) x.reply) (last_of xs)
  part_last client n [] h = refl
  part_last client n (x ∷ []) h = part_one client n (faults x.request.node) (faults' x.request.node) x.reply h.0
  part_last client n (x ∷ y ∷ xs) h = part_last client n (y ∷ xs) h.1

  behind_same : (xs : List Exchange) → SameFaults xs → SameFaults (behind_answers xs)
  behind_same [] h = tt
  behind_same (x ∷ xs) h = by (list_any is_answered (x ∷ xs)) (behind_same xs h.1)
    where
      by : (b : Bool) → SameFaults (behind_answers xs) → SameFaults (cond b (behind_answers xs) (x ∷ xs))
      by true later = later
      by false later = h

  pipeline_one : (u : Bool) (f g : LinkFault) (a b : Option Refusal) → (u ≡ true → f ≡ g) → a ≡ b → cond u (Some (refusal_by_fault f)) a ≡ cond u (Some (refusal_by_fault g)) b
  pipeline_one true f g a b h e = ap (λ k. Some (refusal_by_fault k)) (h refl)
  pipeline_one false f g a b h e = e

  pipeline_same : (xs : List Exchange) (errors : _) → SameFaults xs → pipeline_refusal faults xs errors ≡ pipeline_refusal faults' xs errors
  pipeline_same [] errors h = refl
  pipeline_same (x ∷ xs) errors h =
      pipeline_one (is_unanswered x) (faults x.request.node) (faults' x.request.node) (pipeline_refusal faults xs errors) (pipeline_refusal faults' xs errors) h.0 (pipeline_same xs errors h.1)

  several_same : (command : _) (xs : List Exchange) → SameFaults xs → several_reply faults command xs ≡ several_reply faults' command xs
  several_same command xs h = ap (reply_by_outcomes (policy_in (destination command.args []))) (outcomes_same xs h)

  answer_same : (client : Client) (picks : List Address) (call : Call) (xs : List Exchange) → SameFaults xs → answer_of client picks faults call xs ≡ answer_of client picks faults' call xs
  answer_same client picks call xs h =
      ap (λ o. result_then (plan client picks call) (λ ds. unless o (or_bad_reply (task_answer faults call (task_of call) xs)))) (refused (task_of call))
      ∙ ap (λ a. result_then (plan client picks call) (λ ds. unless (sent_refusal client faults' (task_of call) xs) (or_bad_reply a))) (told (task_of call))
    where
      refused : (task : Task) → sent_refusal client faults task xs ≡ sent_refusal client faults' task xs
      refused (slot_map_of node) = refresh_same xs h
      refused (one_command command number order) = part_last client (length (behind_answers xs)) (behind_answers xs) (behind_same xs h)
      refused (pipeline_of entries) = pipeline_same xs (errors_from 0 (in_pipeline_order entries xs)) h
      refused (positions_of entries) = refl
      refused (several_nodes command) = ap refusal_in (several_same command xs h)
      refused (one_node node command) = refresh_same xs h
      refused (transaction_of commands) = ap refusal_in (commands_same faults faults' client commands xs h)
      refused (read_of options streams) = part_last client (length (behind_answers xs)) (behind_answers xs) (behind_same xs h)

      told : (task : Task) → task_answer faults call task xs ≡ task_answer faults' call task xs
      told (slot_map_of node) = refl
      told (one_command command number order) = refl
      told (pipeline_of entries) = refl
      told (positions_of entries) = ap (λ os. Some (Told os)) (each_same faults faults' entries xs h)
      told (several_nodes command) = ap (λ r. option_and_then (answer_in call) (tree_in r)) (several_same command xs h)
      told (one_node node command) = refl
      told (transaction_of commands) = refl
      told (read_of options streams) = refl

  lost_first : (a : Address) (t : PlayedCall) (ts : List PlayedCall) (queues : Address → List Tree) (place : ℕ)
      → has_lost a (exchanges queues place (t.log ++ whole_log ts)) ≡ (has_lost a (exchanges queues place t.log) || has_lost a (exchanges (left_after_all queues t.log) (place + length t.log) (whole_log ts)))
  lost_first a t ts queues place =
      ap (has_lost a) (exchanges_then t.log (whole_log ts) queues place) ∙ has_lost-append a (exchanges queues place t.log) (exchanges (left_after_all queues t.log) (place + length t.log) (whole_log ts))

  pub other_faults : (client : Client) (queues : Address → List Tree) (place : ℕ) (ts : List PlayedCall) → ((a : Address) → has_lost a (exchanges queues place (whole_log ts)) ≡ true → faults a ≡ faults' a)
      → IsPlayedFrom None client faults (with_replies_from queues place ts) → IsPlayedFrom None client faults' (with_replies_from queues place ts)
  other_faults client queues place [] h p = tt
  other_faults client queues place (t ∷ ts) h p = (
    p.0,
    p.1,
    p.2 ∙ answer_same client t.picks t.call (exchanges queues place t.log) (lost_node (exchanges queues place t.log) (λ a l. h a (lost_first a t ts queues place ∙ ap (λ b. b || has_lost a later) l))),
    other_faults (client_after client t.call (exchanges queues place t.log)) (left_after_all queues t.log) (place + length t.log) ts
        (λ a l. h a (lost_first a t ts queues place ∙ or_true (has_lost a (exchanges queues place t.log)) (has_lost a later) l)) p.3,
  )
    where
      later : List Exchange
      later = exchanges (left_after_all queues t.log) (place + length t.log) (whole_log ts)

      or_true : (b c : Bool) → c ≡ true → (b || c) ≡ true
      or_true true c e = refl
      or_true false c e = e

-- ---- replies that no request waits for do not matter

-- the same replies are to come, or some more of which none was missed
abbrev pub IsFront : List Tree → List Tree → Bool → Type 0
IsFront ts us lost = (us ≡ ts) ⊎ ((lost ≡ false) × ((more : List Tree) × (us ≡ ts ++ more)))

get_front : (ts more : List Tree) (k : ℕ) → is_none (slice_get ts k) ≡ false → (slice_get (ts ++ more) k ≡ slice_get ts k) × (drop (k + 1) (ts ++ more) ≡ drop (k + 1) ts ++ more)
get_front [] more k e = cc
get_front (t ∷ ts) more zero e = (refl, refl)
get_front (t ∷ ts) more (suc k) e =
    let i = get_front ts more k e in
    let n : suc k + 1 ≡ suc (k + 1) = omega arith in
    (i.0, rw n i.1)

or_false : (b c : Bool) → (b || c) ≡ false → (b ≡ false) × (c ≡ false)
or_false true c e = absurd (false≢true (sym e))
or_false false c e = (refl, e)

front_reply : (ts us : List Tree) (k : ℕ) (lost : Bool) → IsFront ts us (is_none (slice_get ts k) || lost) → (slice_get us k ≡ slice_get ts k) × IsFront (drop (k + 1) ts) (drop (k + 1) us) lost
front_reply ts us k lost (inl e) = (ap (λ l. slice_get l k) e, inl (ap (drop (k + 1)) e))
front_reply ts us k lost (inr h) =
    let none = or_false (is_none (slice_get ts k)) lost h.0 in
    let g = get_front ts h.1.0 k none.0 in
    (ap (λ l. slice_get l k) h.1.1 ∙ g.0, inr (none.1, (h.1.0, ap (drop (k + 1)) h.1.1 ∙ g.1)))

or_assoc : (a b c : Bool) → ((a || b) || c) ≡ (a || (b || c))
or_assoc true b c = refl
or_assoc false b c = refl

exchanges_front : (qs : List Request) (f g : Address → List Tree) (place : ℕ) (later : Address → Bool) → ((a : Address) → IsFront (f a) (g a) (has_lost a (exchanges f place qs) || later a))
    → (exchanges f place qs ≡ exchanges g place qs) × ((a : Address) → IsFront (left_after_all f qs a) (left_after_all g qs a) (later a))
exchanges_front [] f g place later h = (refl, h)
exchanges_front (q ∷ qs) f g place later h =
    let r = exchanges_front qs (left_after f q) (left_after g q) (suc place) later (λ a. next a (same_address q.node a) refl (h a)) in
    let e : reply_at (g q.node) q ≡ reply_at (f q.node) q = here.0 in
    (ap (λ o. made o ∷ exchanges (left_after f q) (suc place) qs) (sym e) ∙ ap (λ xs. made (reply_at (g q.node) q) ∷ xs) r.0, r.1)
  where
    made : Option Tree → Exchange
    made o = record { request = q; place = place; reply = o }

    lost : Address → Bool
    lost a = has_lost a (exchanges (left_after f q) (suc place) qs)

    front : (a : Address) → q.node ≡ a → IsFront (f a) (g a) ((is_none (reply_at (f q.node) q) || lost a) || later a)
        → (slice_get (g a) (skipped q.asking) ≡ slice_get (f a) (skipped q.asking)) × IsFront (drop (skipped q.asking + 1) (f a)) (drop (skipped q.asking + 1) (g a)) (lost a || later a)
    front a is k =
        let reply : reply_at (f q.node) q ≡ slice_get (f a) (skipped q.asking) = ap (λ n. slice_get (f n) (skipped q.asking)) is in
        let together = subst (IsFront (f a) (g a)) (or_assoc (is_none (reply_at (f q.node) q)) (lost a) (later a)) k in
        front_reply (f a) (g a) (skipped q.asking) (lost a || later a) (subst (λ o. IsFront (f a) (g a) (is_none o || (lost a || later a))) reply together)

    here : (slice_get (g q.node) (skipped q.asking) ≡ slice_get (f q.node) (skipped q.asking)) × IsFront (drop (skipped q.asking + 1) (f q.node)) (drop (skipped q.asking + 1) (g q.node)) (lost q.node || later q.node)
    here = front q.node refl (subst (λ b. IsFront (f q.node) (g q.node) (((b && is_none (reply_at (f q.node) q)) || lost q.node) || later q.node)) (same_refl q.node) (h q.node))

    next : (a : Address) (b : Bool) → same_address q.node a ≡ b → IsFront (f a) (g a) (((b && is_none (reply_at (f q.node) q)) || lost a) || later a)
        → IsFront (cond b (drop (skipped q.asking + 1) (f a)) (f a)) (cond b (drop (skipped q.asking + 1) (g a)) (g a)) (lost a || later a)
    next a true e k = (front a (same_true q.node a e) k).1
    next a false e k = k

pub more_replies : (ts : List PlayedCall) (f g : Address → List Tree) (place : ℕ) → ((a : Address) → IsFront (f a) (g a) (has_lost a (exchanges f place (whole_log ts))))
    → with_replies_from f place ts ≡ with_replies_from g place ts
more_replies [] f g place h = refl
more_replies (t ∷ ts) f g place h =
    let later = λ (a : Address). has_lost a (exchanges (left_after_all f t.log) (place + length t.log) (whole_log ts)) in
    let r = exchanges_front t.log f g place later
    (λ a. subst (IsFront (f a) (g a)) (ap (has_lost a) (exchanges_then t.log (whole_log ts) f place) ∙ has_lost-append a (exchanges f place t.log) (exchanges (left_after_all f t.log) (place + length t.log) (whole_log ts))) (h a)) in
    ap (λ xs. made xs ∷ with_replies_from (left_after_all f t.log) (place + length t.log) ts) r.0
    ∙ ap (λ us. made (exchanges g place t.log) ∷ us) (more_replies ts (left_after_all f t.log) (left_after_all g t.log) (place + length t.log) r.1)
  where
    made : List Exchange → RepliedCall
    made xs = record { call = t.call; picks = t.picks; answer = t.answer; log = xs }
