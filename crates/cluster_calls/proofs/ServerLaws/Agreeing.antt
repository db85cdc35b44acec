-- Two runs of the same calls, all answered, have one outcome.
use Rattle.std.proofs.Common.{◌≡◌, ℕ, Bool, List, [], ◌∷◌, ◌++◌, map, take, drop, length, Option, Some, Result, Ok, Err, refl, sym, ap, ◌∙◌, subst}
use Rattle.std.specs.Prelude.{⊤}
use Rattle.std.specs.List.{AllByRecursion}
use Rattle.resp_core.specs.Trees.{Tree}
use Rattle.resp_core.specs.Errors.{Refusal}
use Rattle.resp_args.specs.Packed.{sent}
use Rattle.cluster_routing.specs.Address.{Address}
use Rattle.cluster_routing.specs.Choice.{Strategy}
use Rattle.cluster_routing.specs.Combine.{array_of}
use Rattle.cluster_routing.specs.Lists.{concat, Pairwise}
use Rattle.cluster_calls.specs.Links.Faults.{LinkFault, refusal_by_fault}
use Rattle.cluster_calls.specs.Links.Log.{Exchange}
use Rattle.cluster_calls.specs.Calls.After.{client_after}
use Rattle.cluster_calls.specs.Calls.Answer.{Answer, Value, Read, Told, answer_in, answer_of, outcomes_in}
use Rattle.cluster_calls.specs.Calls.Call.{Entry, Call, Refresh, Query, Ordered, Pipeline, Each, FanOut, At, Transaction, OnStreams}
use Rattle.cluster_calls.specs.Calls.EachInParts.{positions_told}
use Rattle.cluster_calls.specs.Calls.Legal.{IsLegalCall}
use Rattle.cluster_calls.specs.Calls.Parts.{result_then}
use Rattle.cluster_calls.specs.Calls.Plan.{Client, Dispatch, plan}
use Rattle.cluster_calls.specs.Calls.Replies.{not_ignored}
use Rattle.cluster_calls.specs.Calls.Task.{Task, slot_map_of, one_command, pipeline_of, positions_of, several_nodes, one_node, read_of, task_of, transaction_of}
use Rattle.cluster_calls.specs.OneServer.Keyspace.{Keyspace}
use Rattle.cluster_calls.specs.OneServer.Meaning.{Meaning, OneServer}
use Rattle.cluster_calls.specs.OneServer.Commands.{is_on_slots, task_operations, operations, by_position, task_done, counting, IsValueBy, IsOutcomeBy, AreOutcomesBy, IsTaskAnswer, IsAnswerBy}
use Rattle.cluster_calls.specs.OneServer.Operations.{Operation, RunCommand, Response, Reply, Rows, run_each}
use Rattle.cluster_calls.specs.OneServer.Headline.{RepliedCall, IsPlayedFrom, all_counting, AsOneServer, AreOnSlots}
use Rattle.cluster_calls.specs.OneServer.Laws.{IsGiven, IsAnswered, IsDeterministic}
use Rattle.cluster_calls.proofs.LogLaws.StreamTasks.{stream_tasks}
use Rattle.cluster_calls.proofs.ServerLaws.Determined.{determined}
use Rattle.cluster_calls.proofs.ServerLaws.Positions.{each_given_counts_whole}

calls_of : List RepliedCall → List Call
calls_of ts = map (λ (t : RepliedCall). t.call) ts

answers_of : List RepliedCall → List (Result Answer Refusal)
answers_of ts = map (λ (t : RepliedCall). t.answer) ts

all_operations : List Call → List Operation
all_operations cs = concat (map operations cs)

-- each command of a pipeline, once
abbrev each_once : List Entry → List (List Operation)
each_once entries = map (λ (e : Entry). run_each (sent e.command ∷ [])) entries

-- all of a task counts: of a pipeline that tells of each position each command, once
abbrev pub CountsWhole : (ℕ → Bool) → Task → List Exchange → Type 0
CountsWhole done (positions_of entries) xs = by_position done entries xs ≡ each_once entries
CountsWhole done _ xs = ⊤

abbrev pub CountWhole : (ℕ → Bool) → List RepliedCall → Type 0
CountWhole done ts = AllByRecursion (λ (t : RepliedCall). CountsWhole done (task_of t.call) t.log) ts

concat_once : (entries : List Entry) → concat (each_once entries) ≡ run_each (map (λ (e : Entry). sent e.command) entries)
concat_once [] = refl
concat_once (e ∷ es) = ap (λ q. RunCommand (sent e.command) ∷ q) (concat_once es)

done_whole : (done : ℕ → Bool) (task : Task) (xs : List Exchange) → CountsWhole done task xs → task_done done task xs ≡ task_operations task
done_whole done (positions_of entries) xs w = ap concat w ∙ concat_once entries
done_whole done (slot_map_of node) xs w = refl
done_whole done (one_command command number order) xs w = refl
done_whole done (pipeline_of entries) xs w = refl
done_whole done (several_nodes command) xs w = refl
done_whole done (one_node node command) xs w = refl
done_whole done (transaction_of commands) xs w = refl
done_whole done (read_of options streams) xs w = refl

-- of an answered call all counts
call_counts : (client : Client) (picks : List Address) (faults : Address → LinkFault) (done : ℕ → Bool) (call : Call) (answer : Result Answer Refusal) (xs : List Exchange) → IsLegalCall client picks call xs → answer ≡ answer_of client picks faults call xs
    → (a : Answer) × (answer ≡ Ok a) × AllByRecursion IsGiven (outcomes_in answer) → CountsWhole done (task_of call) xs
call_counts client picks faults done (Each entries) answer xs legal is given = by (plan client picks (Each entries)) refl
  where
    outcomes : List (Result Tree Refusal)
    outcomes = positions_told (λ node. refusal_by_fault (faults node)) entries xs

    by : (o : Result (List Dispatch) Refusal) → plan client picks (Each entries) ≡ o → by_position done entries xs ≡ each_once entries
    by (Err refusal) p =
        let refused : answer ≡ Err refusal = is ∙ ap (λ o. result_then o (λ ds. Ok (Told outcomes))) p in
        let bad : Err refusal ≡ Ok given.0 = sym refused ∙ given.1 in
        cc
    by (Ok ds) p =
        let told : answer_of client picks faults (Each entries) xs ≡ Ok (Told outcomes) = ap (λ o. result_then o (λ ds. Ok (Told outcomes))) p in
        each_given_counts_whole client picks faults done entries xs outcomes legal told (subst (λ q. AllByRecursion IsGiven (outcomes_in q)) (is ∙ told) given.2)
call_counts client picks faults done (Refresh node) answer xs legal is given = tt
call_counts client picks faults done (Query command number) answer xs legal is given = tt
call_counts client picks faults done (Ordered command order number) answer xs legal is given = tt
call_counts client picks faults done (Pipeline entries) answer xs legal is given = tt
call_counts client picks faults done (FanOut command) answer xs legal is given = tt
call_counts client picks faults done (At node command) answer xs legal is given = tt
call_counts client picks faults done (Transaction commands) answer xs legal is given = tt
call_counts client picks faults done (OnStreams call) answer xs legal is given = stream_tasks (λ task. CountsWhole done task xs) (λ command number order. tt) (λ options streams. tt) call

pub calls_count : (strategy : Option Strategy) (faults : Address → LinkFault) (done : ℕ → Bool) (ts : List RepliedCall) (client : Client) → IsPlayedFrom strategy client faults ts → AllByRecursion IsAnswered ts → CountWhole done ts
calls_count strategy faults done [] client h a = tt
calls_count strategy faults done (t ∷ ts) client h a =
    (call_counts client t.picks faults done t.call t.answer t.log h.1 h.2 a.0, calls_count strategy faults done ts (client_after client t.call t.log) h.3 a.1)

one_counting : (done : ℕ → Bool) (t : RepliedCall) → IsAnswered t → CountsWhole done (task_of t.call) t.log → counting done t.call t.answer t.log ≡ operations t.call
one_counting done t h w = ap (λ a. counting done t.call a t.log) h.1 ∙ done_whole done (task_of t.call) t.log w

-- of answered calls all operations count
counting_all : (done : ℕ → Bool) (ts : List RepliedCall) → AllByRecursion IsAnswered ts → CountWhole done ts → all_counting done ts ≡ all_operations (map (λ (t : RepliedCall). t.call) ts)
unfolding all_operations
counting_all done [] h w = refl
counting_all done (t ∷ ts) h w = ap (λ q. q ++ all_counting done ts) (one_counting done t h.0 w.0) ∙ ap (λ q. operations t.call ++ q) (counting_all done ts h.1 w.1)

-- lists as long that begin equal lists are equal
same_front : (xs ys us vs : List Response) → length xs ≡ length ys → xs ++ us ≡ ys ++ vs → (xs ≡ ys) × (us ≡ vs)
same_front [] [] us vs l e = (refl, e)
same_front [] (y ∷ ys) us vs l e = cc
same_front (x ∷ xs) [] us vs l e = cc
same_front (x ∷ xs) (y ∷ ys) us vs l e =
    let h : x ≡ y = cc in
    let t : xs ++ us ≡ ys ++ vs = cc in
    let m : length xs ≡ length ys = cc in
    let r = same_front xs ys us vs m t in
    (ap (λ q. q ∷ xs) h ∙ ap (λ q. y ∷ q) r.0, r.1)

same_replies : (ts us : List Tree) → map Reply ts ≡ map Reply us → ts ≡ us
same_replies [] [] e = refl
same_replies [] (u ∷ us) e = cc
same_replies (t ∷ ts) [] e = cc
same_replies (t ∷ ts) (u ∷ us) e =
    let h : t ≡ u = cc in
    let r : map Reply ts ≡ map Reply us = cc in
    ap (λ q. q ∷ ts) h ∙ ap (λ q. u ∷ q) (same_replies ts us r)

-- a value that is given is its position's response
given_response : (outcome : Result Tree Refusal) (responses : List Response) → (given : IsGiven outcome) → IsOutcomeBy outcome responses → responses ≡ Reply given.0 ∷ []
given_response outcome responses given h = subst (λ f. IsValueBy given.0 f responses) given.2 (subst (λ o. IsOutcomeBy o responses) given.1 h)

-- outcomes that are all given are determined by the responses
same_outcomes : (entries : List Entry) (os ps : List (Result Tree Refusal)) (responses : List Response) → AreOutcomesBy (each_once entries) os responses → AreOutcomesBy (each_once entries) ps responses
    → AllByRecursion IsGiven os → AllByRecursion IsGiven ps → os ≡ ps
same_outcomes [] [] [] rs h k g f = refl
same_outcomes [] (o ∷ os) ps rs h k g f = absurd h
same_outcomes [] [] (p ∷ ps) rs h k g f = absurd k
same_outcomes (e ∷ es) [] ps rs h k g f = absurd h
same_outcomes (e ∷ es) (o ∷ os) [] rs h k g f = absurd k
same_outcomes (e ∷ es) (o ∷ os) (p ∷ ps) rs h k g f =
    let one : Reply g.0.0 ∷ [] ≡ Reply f.0.0 ∷ [] = sym (given_response o (take 1 rs) g.0 h.0) ∙ given_response p (take 1 rs) f.0 k.0 in
    let tree : g.0.0 ≡ f.0.0 = cc in
    let same : o ≡ p = g.0.1 ∙ ap Ok tree ∙ sym f.0.1 in
    ap (λ q. q ∷ os) same ∙ ap (λ q. p ∷ q) (same_outcomes es os ps (drop 1 rs) h.1 k.1 g.1 f.1)

-- an answer is determined by its call and the responses, where all of it counts
one_answer : (done done' : ℕ → Bool) (call : Call) (task : Task) (xs ys : List Exchange) (a b : Answer) (responses : List Response) → CountsWhole done task xs → CountsWhole done' task ys
    → AllByRecursion IsGiven (outcomes_in (Ok a)) → AllByRecursion IsGiven (outcomes_in (Ok b)) → IsTaskAnswer done call task xs a responses → IsTaskAnswer done' call task ys b responses → a ≡ b
one_answer done done' call (slot_map_of node) xs ys a b responses w v g f h k = h.0 ∙ sym k.0
one_answer done done' call (one_command command number order) xs ys a b responses w v g f h k =
    let e : Reply h.0 ∷ [] ≡ Reply k.0 ∷ [] = sym h.1 ∙ k.1 in
    let t : h.0 ≡ k.0 = cc in
    let s : Some a ≡ Some b = sym h.2 ∙ ap (answer_in call) t ∙ k.2 in
    let r : a ≡ b = cc in r
one_answer done done' call (pipeline_of entries) xs ys a b responses w v g f h k =
    h.2 ∙ ap (λ ts. Value (array_of (not_ignored entries ts))) (same_replies h.0 k.0 (sym h.1 ∙ k.1)) ∙ sym k.2
one_answer done done' call (positions_of entries) xs ys a b responses w v g f h k =
    h.1
    ∙ ap Told (same_outcomes entries h.0 k.0 responses (subst (λ q. AreOutcomesBy q h.0 responses) w h.2) (subst (λ q. AreOutcomesBy q k.0 responses) v k.2)
    (subst (λ q. AllByRecursion IsGiven (outcomes_in (Ok q))) h.1 g) (subst (λ q. AllByRecursion IsGiven (outcomes_in (Ok q))) k.1 f))
    ∙ sym k.1
one_answer done done' call (several_nodes command) xs ys a b responses w v g f h k = absurd h
one_answer done done' call (one_node node command) xs ys a b responses w v g f h k = absurd h
one_answer done done' call (transaction_of commands) xs ys a b responses w v g f h k =
    let e : Reply h.0 ∷ [] ≡ Reply k.0 ∷ [] = sym h.1 ∙ k.1 in
    let t : h.0 ≡ k.0 = cc in
    h.2 ∙ ap Value t ∙ sym k.2
one_answer done done' call (read_of options streams) xs ys a b responses w v g f h k =
    let e : Rows (Some h.0) ∷ [] ≡ Rows (Some k.0) ∷ [] = sym h.1 ∙ k.1 in
    let r : h.0 ≡ k.0 = cc in
    h.2 ∙ ap Read r ∙ sym k.2

-- call by call
call_by_call : (done done' : ℕ → Bool) (ts us : List RepliedCall) (xs ys : List (List Response)) → map (λ (t : RepliedCall). t.call) ts ≡ map (λ (t : RepliedCall). t.call) us → AllByRecursion IsAnswered ts → AllByRecursion IsAnswered us
    → CountWhole done ts → CountWhole done' us
    → Pairwise (λ (t : RepliedCall) here. length here ≡ length (counting done t.call t.answer t.log)) ts xs → Pairwise (λ (t : RepliedCall) here. length here ≡ length (counting done' t.call t.answer t.log)) us ys
    → Pairwise (λ (t : RepliedCall) here. IsAnswerBy done t.call t.log t.answer here) ts xs → Pairwise (λ (t : RepliedCall) here. IsAnswerBy done' t.call t.log t.answer here) us ys → concat xs ≡ concat ys
    → map (λ (t : RepliedCall). t.answer) ts ≡ map (λ (t : RepliedCall). t.answer) us
call_by_call done done' [] [] xs ys e a b w v m n h k c = refl
call_by_call done done' [] (u ∷ us) xs ys e a b w v m n h k c = cc
call_by_call done done' (t ∷ ts) [] xs ys e a b w v m n h k c = cc
call_by_call done done' (t ∷ ts) (u ∷ us) [] ys e a b w v m n h k c = absurd m
call_by_call done done' (t ∷ ts) (u ∷ us) (x ∷ xs) [] e a b w v m n h k c = absurd n
call_by_call done done' (t ∷ ts) (u ∷ us) (x ∷ xs) (y ∷ ys) e a b w v m n h k c =
    let call : t.call ≡ u.call = cc in
    let rest : map (λ (t : RepliedCall). t.call) ts ≡ map (λ (t : RepliedCall). t.call) us = cc in
    let left : length x ≡ length (operations t.call) = m.0 ∙ ap length (one_counting done t a.0 w.0) in
    let right : length y ≡ length (operations u.call) = n.0 ∙ ap length (one_counting done' u b.0 v.0) in
    let s = same_front x y (concat xs) (concat ys) (left ∙ ap (λ q. length (operations q)) call ∙ sym right) c in
    let here : IsTaskAnswer done t.call (task_of t.call) t.log a.0.0 x = subst (λ q. IsAnswerBy done t.call t.log q x) a.0.1 h.0 in
    let there : IsTaskAnswer done' t.call (task_of t.call) u.log b.0.0 x =
    subst (λ q. IsTaskAnswer done' q (task_of q) u.log b.0.0 x) (sym call) (subst (λ q. IsTaskAnswer done' u.call (task_of u.call) u.log b.0.0 q) (sym s.0) (subst (λ q. IsAnswerBy done' u.call u.log q y) b.0.1 k.0)) in
    let one = one_answer done done' t.call (task_of t.call) t.log u.log a.0.0 b.0.0 x w.0 (subst (λ q. CountsWhole done' (task_of q) u.log) (sym call) v.0)
    (subst (λ q. AllByRecursion IsGiven (outcomes_in q)) a.0.1 a.0.2) (subst (λ q. AllByRecursion IsGiven (outcomes_in q)) b.0.1 b.0.2) here there in
    let same : t.answer ≡ u.answer = a.0.1 ∙ ap (λ q. Ok q) one ∙ sym b.0.1 in
    ap (λ q. q ∷ map (λ (t : RepliedCall). t.answer) ts) same ∙ ap (λ q. u.answer ∷ q) (call_by_call done done' ts us xs ys rest a.1 b.1 w.1 v.1 m.1 n.1 h.1 k.1 s.1)

pub servers_agree : (meaning : Meaning) (keys left right : Keyspace) (done done' : ℕ → Bool) (ts us : List RepliedCall) → IsDeterministic meaning → map (λ (t : RepliedCall). t.call) ts ≡ map (λ (t : RepliedCall). t.call) us
    → AllByRecursion IsAnswered ts → AllByRecursion IsAnswered us → CountWhole done ts → CountWhole done' us → AsOneServer meaning keys done ts left → AsOneServer meaning keys done' us right
    → (map (λ (t : RepliedCall). t.answer) ts ≡ map (λ (t : RepliedCall). t.answer) us) × ((slot : ℕ) → left slot ≡ right slot)
servers_agree meaning keys left right done done' ts us one e a b w v h k =
    let same : all_counting done' us ≡ all_counting done ts = counting_all done' us b v ∙ ap all_operations (sym e) ∙ sym (counting_all done ts a w) in
    let other : OneServer meaning keys (all_counting done ts) (concat k.responses) right = subst (λ q. OneServer meaning keys q (concat k.responses) right) same k.served in
    let d = determined meaning one (all_counting done ts) h.served.0 other.0 (concat h.responses) (concat k.responses) keys left right h.served.1 other.1 h.served.2 other.2 in
    (call_by_call done done' ts us h.responses k.responses e a b w v h.counts k.counts h.answers k.answers d.0, d.1)

-- the same calls are on slots in both runs
pub on_slots_too : (ts us : List RepliedCall) → map (λ (t : RepliedCall). t.call) ts ≡ map (λ (t : RepliedCall). t.call) us → AreOnSlots ts → AreOnSlots us
on_slots_too [] [] e h = tt
on_slots_too [] (u ∷ us) e h = absurd (empty e)
  where
    empty : {A : Type 0} {x : A} {xs : List A} → [] ≡ x ∷ xs → ⊥
    empty e = cc
on_slots_too (t ∷ ts) [] e h = tt
on_slots_too (t ∷ ts) (u ∷ us) e h =
    let call : t.call ≡ u.call = cc in
    let rest : map (λ (t : RepliedCall). t.call) ts ≡ map (λ (t : RepliedCall). t.call) us = cc in
    (ap is_on_slots (sym call) ∙ h.0, on_slots_too ts us rest h.1)
