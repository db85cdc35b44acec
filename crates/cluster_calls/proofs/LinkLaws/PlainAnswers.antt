-- When a call's answer is a function of its exchanges: where it tells no position, and where memory was there for each value.
use Rattle.std.specs.Prelude.{MatchOption, take, drop}
use Rattle.std.specs.List.{AllByRecursion}
use Rattle.std.proofs.Common.{◌≡◌, ◌≢◌, Bool, true, false, List, [], ◌∷◌, map, Option, Some, None, Result, Ok, Err, refl, sym, ap, ◌∙◌}
use Rattle.std.proofs.lemmas.Bool.{false≢true}
use Rattle.resp_core.specs.Trees.{Tree}
use Rattle.resp_core.specs.Errors.{Refusal, by_cause}
use Rattle.resp_core.specs.declared.errors.redis_error.Cause.TheVariants.{Memory}
use Rattle.cluster_routing.specs.Address.{Address}
use Rattle.cluster_routing.specs.Split.{Split}
use Rattle.cluster_calls.specs.Links.Faults.{LinkFault, refusal_by_fault}
use Rattle.cluster_calls.specs.Links.Happened.{is_each}
use Rattle.cluster_calls.specs.Links.Log.{Exchange}
use Rattle.cluster_calls.specs.Calls.Answer.{Answer, answer_of, IsAnswerOf, TellsNoMemory, Told}
use Rattle.cluster_calls.specs.Calls.Call.{Call, Entry, Each, OnStreams}
use Rattle.cluster_calls.specs.Calls.Each.{reply_in, told_each}
use Rattle.cluster_calls.specs.Calls.EachInParts.{AreOutcomesOf, IsOutcomeOf, outcome_by_parts, outcomes_by_parts, positions_told, refusal_of_parts, reply_in_parts}
use Rattle.cluster_calls.specs.Calls.InParts.{in_parts, part_count, splits_in}
use Rattle.cluster_calls.specs.Calls.Parts.{result_then, unless}
use Rattle.cluster_calls.specs.Calls.Plan.{Client, Dispatch, plan}
use Rattle.cluster_calls.specs.Calls.Refusals.{refusal_in}
use Rattle.cluster_calls.specs.Calls.Task.{Task, positions_of, task_of}
use Rattle.cluster_calls.proofs.LogLaws.StreamTasks.{stream_tasks}

-- ---- a call that tells no position

abbrev pub is_positions : Task → Bool
is_positions (positions_of entries) = true
is_positions _ = false

each_task : (call : Call) → is_each call ≡ is_positions (task_of call)
each_task (OnStreams call) = stream_tasks (λ task. false ≡ is_positions task) (λ command number order. refl) (λ options streams. refl) call
each_task call = refl

pub by_task : (call : Call) (task : Task) → task_of call ≡ task → is_positions task ≡ false → is_each call ≡ false
by_task call task is none = each_task call ∙ ap is_positions is ∙ none

abbrev IsAnswer : Client → List Address → (Address → LinkFault) → List Exchange → Result Answer Refusal → Call → Type 0
IsAnswer client picks faults xs answer call = IsAnswerOf client picks faults call xs answer

abbrev IsValue : Client → List Address → (Address → LinkFault) → List Exchange → Result Answer Refusal → Call → Type 0
IsValue client picks faults xs answer call = answer ≡ answer_of client picks faults call xs

-- what holds of a call that tells each position, and of one that tells none, holds of each call
each_or_plain : (P : Call → Type 0) → ((entries : List Entry) → P (Each entries)) → ((call : Call) → is_each call ≡ false → P call) → (call : Call) → P call
each_or_plain P each plain (Each entries) = each entries
each_or_plain P each plain call = plain call refl

-- the answer of a call that tells no position is that value, and the other way round
plain_both : (client : Client) (picks : List Address) (faults : Address → LinkFault) (xs : List Exchange) (answer : Result Answer Refusal) (call : Call) → is_each call ≡ false
    → (IsAnswer client picks faults xs answer call → IsValue client picks faults xs answer call) × (IsValue client picks faults xs answer call → IsAnswer client picks faults xs answer call)
plain_both client picks faults xs answer (Each entries) n = absurd (false≢true (sym n))
plain_both client picks faults xs answer call n = (λ e. e, λ e. e)

pub plain_answer : (client : Client) (picks : List Address) (faults : Address → LinkFault) (call : Call) (xs : List Exchange) (answer : Result Answer Refusal) → is_each call ≡ false → answer ≡ answer_of client picks faults call xs
    → IsAnswerOf client picks faults call xs answer
plain_answer client picks faults call xs answer n = (plain_both client picks faults xs answer call n).1

pub plain_is : (client : Client) (picks : List Address) (faults : Address → LinkFault) (call : Call) (xs : List Exchange) (answer : Result Answer Refusal) → is_each call ≡ false → IsAnswerOf client picks faults call xs answer
    → answer ≡ answer_of client picks faults call xs
plain_is client picks faults call xs answer n = (plain_both client picks faults xs answer call n).0

-- a refused call tells no position
pub refused_answer : (client : Client) (picks : List Address) (faults : Address → LinkFault) (call : Call) (xs : List Exchange) (refusal : Refusal) → Err refusal ≡ answer_of client picks faults call xs
    → IsAnswerOf client picks faults call xs (Err refusal)
refused_answer client picks faults call xs refusal =
    each_or_plain (λ c. IsValue client picks faults xs (Err refusal) c → IsAnswer client picks faults xs (Err refusal) c) (λ entries e. e) (λ c n. plain_answer client picks faults c xs (Err refusal) n) call

-- ---- with memory for each value

abbrev IsNoMemory : Result Tree Refusal → Type 0
IsNoMemory outcome = outcome ≢ Err (by_cause Memory)

one_told : (s : Option Split) (os : List (Result Tree Refusal)) (outcome : Result Tree Refusal) → IsOutcomeOf s os outcome → IsNoMemory outcome → outcome ≡ outcome_by_parts s os
one_told None os outcome h m = sym (ap (outcome_by_parts None) h)
one_told (Some s) os outcome h m = by (refusal_of_parts os) refl h
  where
    by : (r : Option Refusal) → refusal_of_parts os ≡ r → MatchOption r (outcome ≢ Err (by_cause Memory) → outcome ≡ reply_in_parts s (map reply_in os)) (λ refusal. outcome ≡ Err refusal) → outcome ≡ outcome_by_parts (Some s) os
    by None e k = k m ∙ sym (ap (λ why. unless why (reply_in_parts s (map reply_in os))) e)
    by (Some refusal) e k = k ∙ sym (ap (λ why. unless why (reply_in_parts s (map reply_in os))) e)

pub told_is : (ss : List (Option Split)) (os outcomes : List (Result Tree Refusal)) → AreOutcomesOf ss os outcomes → AllByRecursion IsNoMemory outcomes → outcomes ≡ outcomes_by_parts ss os
told_is [] os [] h m = refl
told_is [] os (outcome ∷ outcomes) h m = absurd h
told_is (s ∷ ss) os [] h m = absurd h
told_is (s ∷ ss) os (outcome ∷ outcomes) h m =
    ap (λ o. o ∷ outcomes) (one_told s (take (part_count s) os) outcome h.0 m.0) ∙ ap (λ more. outcome_by_parts s (take (part_count s) os) ∷ more) (told_is ss (drop (part_count s) os) outcomes h.1 m.1)

each_told : (client : Client) (picks : List Address) (faults : Address → LinkFault) (entries : List Entry) (xs : List Exchange) (outcomes : List (Result Tree Refusal))
    → IsAnswerOf client picks faults (Each entries) xs (Ok (Told outcomes)) → AllByRecursion IsNoMemory outcomes → Ok (Told outcomes) ≡ answer_of client picks faults (Each entries) xs
each_told client picks faults entries xs outcomes h m = by (plan client picks (Each entries)) h.0
  where
    whole : List (Result Tree Refusal)
    whole = positions_told (λ node. refusal_by_fault (faults node)) entries xs

    by : (o : Result (List Dispatch) Refusal) → refusal_in o ≡ None → Ok (Told outcomes) ≡ result_then o (λ ds. Ok (Told whole))
    by (Ok ds) e = ap (λ os. Ok (Told os)) (told_is (splits_in entries) (told_each (λ node. refusal_by_fault (faults node)) (in_parts entries) xs) outcomes h.1 m)
    by (Err refusal) e = cc

-- positions were told, or the answer is another one
positions_or : (client : Client) (picks : List Address) (faults : Address → LinkFault) (entries : List Entry) (xs : List Exchange) (P : Result Answer Refusal → Type 0)
    → ((outcomes : List (Result Tree Refusal)) → IsAnswer client picks faults xs (Ok (Told outcomes)) (Each entries) → P (Ok (Told outcomes))) → ((answer : Result Answer Refusal) → IsValue client picks faults xs answer (Each entries) → P answer)
    → (answer : Result Answer Refusal) → IsAnswer client picks faults xs answer (Each entries) → P answer
positions_or client picks faults entries xs P told other (Ok (Told outcomes)) h = told outcomes h
positions_or client picks faults entries xs P told other answer h = other answer h

each_answer : (client : Client) (picks : List Address) (faults : Address → LinkFault) (entries : List Entry) (xs : List Exchange) (answer : Result Answer Refusal)
    → IsAnswerOf client picks faults (Each entries) xs answer → TellsNoMemory answer → answer ≡ answer_of client picks faults (Each entries) xs
each_answer client picks faults entries xs =
    positions_or client picks faults entries xs (λ a. TellsNoMemory a → IsValue client picks faults xs a (Each entries)) (λ outcomes h m. each_told client picks faults entries xs outcomes h m.1) (λ a h m. h)

pub no_memory_answer : (client : Client) (picks : List Address) (faults : Address → LinkFault) (call : Call) (xs : List Exchange) (answer : Result Answer Refusal) → IsAnswerOf client picks faults call xs answer → TellsNoMemory answer
    → answer ≡ answer_of client picks faults call xs
no_memory_answer client picks faults call xs answer =
    each_or_plain (λ c. IsAnswer client picks faults xs answer c → TellsNoMemory answer → IsValue client picks faults xs answer c) (λ entries h m. each_answer client picks faults entries xs answer h m) (λ c n h m. plain_is client picks faults c xs answer n h) call

-- ---- whether it is refused

each_refused : (client : Client) (picks : List Address) (faults : Address → LinkFault) (entries : List Entry) (xs : List Exchange) (outcomes : List (Result Tree Refusal))
    → IsAnswerOf client picks faults (Each entries) xs (Ok (Told outcomes)) → None ≡ refusal_in (answer_of client picks faults (Each entries) xs)
each_refused client picks faults entries xs outcomes h = by (plan client picks (Each entries)) h.0
  where
    by : (o : Result (List Dispatch) Refusal) → refusal_in o ≡ None → None ≡ refusal_in (result_then o (λ ds. Ok (Told (positions_told (λ node. refusal_by_fault (faults node)) entries xs))))
    by (Ok ds) e = refl
    by (Err refusal) e = cc

each_refused_is : (client : Client) (picks : List Address) (faults : Address → LinkFault) (entries : List Entry) (xs : List Exchange) (answer : Result Answer Refusal)
    → IsAnswerOf client picks faults (Each entries) xs answer → refusal_in answer ≡ refusal_in (answer_of client picks faults (Each entries) xs)
each_refused_is client picks faults entries xs =
    positions_or client picks faults entries xs (λ a. refusal_in a ≡ refusal_in (answer_of client picks faults (Each entries) xs)) (λ outcomes h. each_refused client picks faults entries xs outcomes h) (λ a h. ap refusal_in h)

pub refused_is : (client : Client) (picks : List Address) (faults : Address → LinkFault) (call : Call) (xs : List Exchange) (answer : Result Answer Refusal) → IsAnswerOf client picks faults call xs answer
    → refusal_in answer ≡ refusal_in (answer_of client picks faults call xs)
refused_is client picks faults call xs answer =
    each_or_plain (λ c. IsAnswer client picks faults xs answer c → refusal_in answer ≡ refusal_in (answer_of client picks faults c xs)) (λ entries h. each_refused_is client picks faults entries xs answer h) (λ c n h. ap refusal_in (plain_is client picks faults c xs answer n h)) call
