-- The law `RunsAgree` with calls that are the same but for the order of their parts and the number.
use Rattle.std.proofs.Common.{◌≡◌, ℕ, Bool, List, [], ◌∷◌, ◌++◌, map, length, refl, sym, ap, ◌∙◌, subst}
use Rattle.std.specs.Prelude.{Option}
use Rattle.std.specs.List.{AllByRecursion}
use Rattle.cluster_routing.specs.Choice.{Strategy}
use Rattle.cluster_routing.specs.Address.{Address}
use Rattle.cluster_routing.specs.Lists.{concat, Pairwise}
use Rattle.cluster_calls.specs.Links.Faults.{LinkFault}
use Rattle.cluster_calls.specs.Links.Log.{Exchange}
use Rattle.cluster_calls.specs.Calls.Call.{Call, Refresh}
use Rattle.cluster_calls.specs.Calls.Plan.{Client}
use Rattle.cluster_calls.specs.Calls.Task.{task_of}
use Rattle.cluster_calls.specs.Calls.Answer.{Answer}
use Rattle.cluster_calls.specs.OneServer.Keyspace.{Keyspace}
use Rattle.cluster_calls.specs.OneServer.Meaning.{Meaning, OneServer}
use Rattle.cluster_calls.specs.OneServer.Honest.{HonestRun}
use Rattle.cluster_calls.specs.OneServer.Commands.{is_on_slots, task_done, counting, IsTaskAnswer, IsAnswerBy}
use Rattle.cluster_calls.specs.OneServer.Operations.{Response}
use Rattle.cluster_calls.specs.OneServer.Headline.{RepliedCall, IsPlayedFrom, command_logs, all_counting, AsOneServer, AreOnSlots}
use Rattle.cluster_calls.specs.OneServer.Laws.{IsAnswered, IsDeterministic, in_any_order}
use Rattle.cluster_calls.proofs.LogLaws.Gaps.{every_gap_names_no_key}
use Rattle.cluster_calls.proofs.ServerLaws.Agreeing.{CountsWhole, CountWhole, calls_count, servers_agree, on_slots_too}
use Rattle.cluster_calls.proofs.ServerLaws.Alone.{run_served}

abbrev pub turned : RepliedCall → RepliedCall
turned t = record { call = in_any_order t.call; picks = t.picks; answer = t.answer; log = t.log }

same_done : (done : ℕ → Bool) (call : Call) (xs : List Exchange) → task_done done (task_of (in_any_order call)) xs ≡ task_done done (task_of call) xs
same_done done (Refresh node) xs = refl
same_done done call xs = refl

same_answer : (done : ℕ → Bool) (call : Call) (xs : List Exchange) (a : Answer) (rs : List Response) → IsTaskAnswer done call (task_of call) xs a rs → IsTaskAnswer done (in_any_order call) (task_of (in_any_order call)) xs a rs
same_answer done (Refresh node) xs a rs h = h
same_answer done call xs a rs h = h

same_whole : (done : ℕ → Bool) (call : Call) (xs : List Exchange) → CountsWhole done (task_of call) xs → CountsWhole done (task_of (in_any_order call)) xs
same_whole done (Refresh node) xs h = h
same_whole done call xs h = h

same_slots : (call : Call) → is_on_slots (in_any_order call) ≡ is_on_slots call
same_slots (Refresh node) = refl
same_slots call = refl

same_counting : (done : ℕ → Bool) (t : RepliedCall) → IsAnswered t → counting done (in_any_order t.call) t.answer t.log ≡ counting done t.call t.answer t.log
same_counting done t h =
    ap (λ a. counting done (in_any_order t.call) a t.log) h.1 ∙ same_done done t.call t.log ∙ sym (ap (λ a. counting done t.call a t.log) h.1)

all_same : (done : ℕ → Bool) (ts : List RepliedCall) → AllByRecursion IsAnswered ts → all_counting done (map turned ts) ≡ all_counting done ts
all_same done [] h = refl
all_same done (t ∷ ts) h =
    ap (λ q. q ++ all_counting done (map turned ts)) (same_counting done t h.0) ∙ ap (λ q. counting done t.call t.answer t.log ++ q) (all_same done ts h.1)

counts_turned : (done : ℕ → Bool) (ts : List RepliedCall) (rs : List (List Response)) → AllByRecursion IsAnswered ts
    → Pairwise (λ (t : RepliedCall) here. length here ≡ length (counting done t.call t.answer t.log)) ts rs
    → Pairwise (λ (t : RepliedCall) here. length here ≡ length (counting done t.call t.answer t.log)) (map turned ts) rs
counts_turned done [] [] h p = p
counts_turned done [] (r ∷ rs) h p = absurd p
counts_turned done (t ∷ ts) [] h p = absurd p
counts_turned done (t ∷ ts) (r ∷ rs) h p = (p.0 ∙ ap length (sym (same_counting done t h.0)), counts_turned done ts rs h.1 p.1)

answer_turned : (done : ℕ → Bool) (t : RepliedCall) (here : List Response) → IsAnswered t → IsAnswerBy done t.call t.log t.answer here → IsAnswerBy done (in_any_order t.call) t.log t.answer here
answer_turned done t here h p =
    subst (λ a. IsAnswerBy done (in_any_order t.call) t.log a here) (sym h.1) (same_answer done t.call t.log h.0 here (subst (λ a. IsAnswerBy done t.call t.log a here) h.1 p))

answers_turned : (done : ℕ → Bool) (ts : List RepliedCall) (rs : List (List Response)) → AllByRecursion IsAnswered ts
    → Pairwise (λ (t : RepliedCall) here. IsAnswerBy done t.call t.log t.answer here) ts rs → Pairwise (λ (t : RepliedCall) here. IsAnswerBy done t.call t.log t.answer here) (map turned ts) rs
answers_turned done [] [] h p = p
answers_turned done [] (r ∷ rs) h p = absurd p
answers_turned done (t ∷ ts) [] h p = absurd p
answers_turned done (t ∷ ts) (r ∷ rs) h p = (answer_turned done t r h.0 p.0, answers_turned done ts rs h.1 p.1)

whole_turned : (done : ℕ → Bool) (ts : List RepliedCall) → CountWhole done ts → CountWhole done (map turned ts)
whole_turned done [] h = tt
whole_turned done (t ∷ ts) h = (same_whole done t.call t.log h.0, whole_turned done ts h.1)

served_turned : (meaning : Meaning) (keys keys' : Keyspace) (done : ℕ → Bool) (ts : List RepliedCall) → AllByRecursion IsAnswered ts
    → AsOneServer meaning keys done ts keys' → AsOneServer meaning keys done (map turned ts) keys'
served_turned meaning keys keys' done ts h s = record {
  responses = s.responses;
  counts = counts_turned done ts s.responses h s.counts;
  served = subst (λ q. OneServer meaning keys q (concat s.responses) keys') (sym (all_same done ts h)) s.served;
  answers = answers_turned done ts s.responses h s.answers;
}

answered_turned : (ts : List RepliedCall) → AllByRecursion IsAnswered ts → AllByRecursion IsAnswered (map turned ts)
answered_turned [] h = tt
answered_turned (t ∷ ts) h = (h.0, answered_turned ts h.1)

calls_turned : (ts : List RepliedCall) → map (λ (t : RepliedCall). t.call) (map turned ts) ≡ map (λ (t : RepliedCall). in_any_order t.call) ts
calls_turned [] = refl
calls_turned (t ∷ ts) = ap (λ q. in_any_order t.call ∷ q) (calls_turned ts)

answers_stay : (ts : List RepliedCall) → map (λ (t : RepliedCall). t.answer) (map turned ts) ≡ map (λ (t : RepliedCall). t.answer) ts
answers_stay [] = refl
answers_stay (t ∷ ts) = ap (λ q. t.answer ∷ q) (answers_stay ts)

slots_turned : (ts : List RepliedCall) → AreOnSlots ts → AreOnSlots (map turned ts)
slots_turned [] h = tt
slots_turned (t ∷ ts) h = (same_slots t.call ∙ h.0, slots_turned ts h.1)

slots_back : (ts : List RepliedCall) → AreOnSlots (map turned ts) → AreOnSlots ts
slots_back [] h = tt
slots_back (t ∷ ts) h = (sym (same_slots t.call) ∙ h.0, slots_back ts h.1)

-- the law, whatever maps, orders, numbers and picks
pub runs_agree_in_any_order : (strategy strategy' : Option Strategy) (client client' : Client) (faults faults' : Address → LinkFault) (ts us : List RepliedCall)
    (meaning : Meaning) (keys left right : Keyspace) (done done' : ℕ → Bool) → IsDeterministic meaning
    → map (λ (t : RepliedCall). in_any_order t.call) ts ≡ map (λ (t : RepliedCall). in_any_order t.call) us → AreOnSlots ts → AllByRecursion IsAnswered ts → AllByRecursion IsAnswered us
    → IsPlayedFrom strategy client faults ts → IsPlayedFrom strategy' client' faults' us
    → HonestRun meaning keys done (command_logs ts) left → HonestRun meaning keys done' (command_logs us) right
    → (map (λ (t : RepliedCall). t.answer) ts ≡ map (λ (t : RepliedCall). t.answer) us) × ((slot : ℕ) → left slot ≡ right slot)
runs_agree_in_any_order strategy strategy' client client' faults faults' ts us meaning keys left right done done' one same on a b played played' honest honest' =
    let calls : map (λ (t : RepliedCall). t.call) (map turned ts) ≡ map (λ (t : RepliedCall). t.call) (map turned us) = calls_turned ts ∙ same ∙ sym (calls_turned us) in
    let on' : AreOnSlots us = slots_back us (on_slots_too (map turned ts) (map turned us) calls (slots_turned ts on)) in
    let r = servers_agree meaning keys left right done done' (map turned ts) (map turned us) one calls (answered_turned ts a) (answered_turned us b)
    (whole_turned done ts (calls_count strategy faults done ts client played a)) (whole_turned done' us (calls_count strategy' faults' done' us client' played' b))
    (served_turned meaning keys left done ts a (run_served strategy faults meaning done ts client keys left every_gap_names_no_key on played honest))
    (served_turned meaning keys right done' us b (run_served strategy' faults' meaning done' us client' keys right every_gap_names_no_key on' played' honest')) in
    (sym (answers_stay ts) ∙ r.0 ∙ answers_stay us, r.1)
