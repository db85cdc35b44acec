-- A run is as good as one server where no one else uses the keys: that is the claim among others, with no step of others.
use Rattle.std.proofs.Common.{◌≡◌, ℕ, Bool, true, false, cond, ◌==◌, List, [], ◌∷◌, ◌++◌, map, length, Option, refl, sym, ap, ◌∙◌, subst, append-nil}
use Rattle.std.proofs.lemmas.List.{map-append}
use Rattle.cluster_routing.specs.Address.{Address}
use Rattle.cluster_routing.specs.Choice.{Strategy}
use Rattle.cluster_routing.specs.Lists.{concat, front, rest, Pairwise}
use Rattle.cluster_calls.specs.Calls.Plan.{Client}
use Rattle.cluster_calls.specs.Links.Faults.{LinkFault}
use Rattle.cluster_calls.specs.OneServer.Commands.{counting, IsAnswerBy}
use Rattle.cluster_calls.specs.OneServer.Headline.{RepliedCall, command_logs, all_counting, IsPlayedFrom, AreOnSlots, AsOneServer}
use Rattle.cluster_calls.specs.OneServer.Honest.{HonestRun}
use Rattle.cluster_calls.specs.OneServer.Keyspace.{Keyspace, Step, History, on_slot}
use Rattle.cluster_calls.specs.OneServer.Laws.{GapsNameNoKey}
use Rattle.cluster_calls.specs.OneServer.Meaning.{Meaning, DoAll}
use Rattle.cluster_calls.specs.OneServer.Operations.{Response}
use Rattle.cluster_calls.specs.OneServer.AmongOthers.{Turn, Own, Other, step_of, in_turn, turns_on, CallTurns, call_turns, run_turns, AreItsRequests, HonestAmongOthers, ServedCall, IsServed, AsOneServerAmongOthers}
use Rattle.cluster_calls.proofs.ServerLaws.AmongOthers.{served_among_others, same_run}
use Rattle.cluster_calls.proofs.ServerLaws.Histories.{history_same_slots}
use Rattle.cluster_calls.proofs.ServerLaws.Pieces.{do_all-append, do_all_length}
use Rattle.cluster_calls.proofs.ServerLaws.Runs.{AreOfCall, by_call, concat-append}

-- a call while no one else does anything
abbrev alone : List (List Step) → CallTurns
alone own = record { before = []; during = []; own = own }

-- ---- own steps among all

abbrev own_of : List Turn → List Step
own_of [] = []
own_of (Own x ∷ ts) = x ∷ own_of ts
own_of (Other x ∷ ts) = own_of ts

own-append : (ts us : List Turn) → own_of (ts ++ us) ≡ own_of ts ++ own_of us
own-append [] us = refl
own-append (Own x ∷ ts) us = ap (λ q. x ∷ q) (own-append ts us)
own-append (Other x ∷ ts) us = own-append ts us

own_of_own : (xs : List Step) → own_of (map Own xs) ≡ xs
own_of_own [] = refl
own_of_own (x ∷ xs) = ap (λ q. x ∷ q) (own_of_own xs)

own_of_others : (xs : List Step) → own_of (map Other xs) ≡ []
own_of_others [] = refl
own_of_others (x ∷ xs) = own_of_others xs

own_in_turn : (during own : List (List Step)) → own_of (in_turn during own) ≡ concat own
own_in_turn during [] = own_of_others (concat during)
own_in_turn during (o ∷ os) =
    own-append (map Other (concat (front during))) (map Own o ++ in_turn (rest during) os)
    ∙ ap (λ q. q ++ own_of (map Own o ++ in_turn (rest during) os)) (own_of_others (concat (front during)))
    ∙ own-append (map Own o) (in_turn (rest during) os)
    ∙ ap (λ q. q ++ own_of (in_turn (rest during) os)) (own_of_own o)
    ∙ ap (λ q. o ++ q) (own_in_turn (rest during) os)

own_call : (c : CallTurns) → own_of (call_turns c) ≡ concat c.own
own_call c = own-append (map Other c.before) (in_turn c.during c.own) ∙ ap (λ q. q ++ own_of (in_turn c.during c.own)) (own_of_others c.before) ∙ own_in_turn c.during c.own

own_calls : (cs : List CallTurns) → own_of (concat (map call_turns cs)) ≡ concat (concat (map (λ (c : CallTurns). c.own) cs))
own_calls [] = refl
own_calls (c ∷ cs) =
    own-append (call_turns c) (concat (map call_turns cs))
    ∙ ap (λ q. q ++ own_of (concat (map call_turns cs))) (own_call c)
    ∙ ap (λ q. concat c.own ++ q) (own_calls cs)
    ∙ sym (concat-append c.own (concat (map (λ (c : CallTurns). c.own) cs)))

own_on_slot : (s : ℕ) (ts : List Turn) → own_of (turns_on s ts) ≡ on_slot s (own_of ts)
own_on_slot s [] = refl
own_on_slot s (Own x ∷ ts) = by (s == x.slot) (own_on_slot s ts)
  where
    by : (b : Bool) → own_of (turns_on s ts) ≡ on_slot s (own_of ts) → own_of (cond b (Own x ∷ turns_on s ts) (turns_on s ts)) ≡ cond b (x ∷ on_slot s (own_of ts)) (on_slot s (own_of ts))
    by true ih = ap (λ q. x ∷ q) ih
    by false ih = ih
own_on_slot s (Other x ∷ ts) = by (s == x.slot) (own_on_slot s ts)
  where
    by : (b : Bool) → own_of (turns_on s ts) ≡ on_slot s (own_of ts) → own_of (cond b (Other x ∷ turns_on s ts) (turns_on s ts)) ≡ on_slot s (own_of ts)
    by true ih = ih
    by false ih = ih

-- ---- no step of others

steps_of_own : (xs : List Step) → map step_of (map Own xs) ≡ xs
steps_of_own [] = refl
steps_of_own (x ∷ xs) = ap (λ q. x ∷ q) (steps_of_own xs)

alone_turns : (own : List (List Step)) → in_turn [] own ≡ map Own (concat own)
alone_turns [] = refl
alone_turns (o ∷ os) = ap (λ q. map Own o ++ q) (alone_turns os) ∙ sym (map-append Own o (concat os))

alone_calls : (owns : List (List (List Step))) → concat (map call_turns (map alone owns)) ≡ map Own (concat (concat owns))
alone_calls [] = refl
alone_calls (o ∷ os) =
    ap (λ q. q ++ concat (map call_turns (map alone os))) (alone_turns o)
    ∙ ap (λ q. map Own (concat o) ++ q) (alone_calls os)
    ∙ sym (map-append Own (concat o) (concat (concat os)))
    ∙ ap (map Own) (sym (concat-append o (concat os)))

alone_run : (owns : List (List (List Step))) → run_turns (map alone owns) [] ≡ map Own (concat (concat owns))
alone_run owns = append-nil (concat (map call_turns (map alone owns))) ∙ alone_calls owns

are_alone : (meaning : Meaning) (done : ℕ → Bool) (ts : List RepliedCall) (owns : List (List (List Step))) → Pairwise (AreOfCall meaning done) ts owns → Pairwise (AreItsRequests meaning done) ts (map alone owns)
are_alone meaning done [] [] h = tt
are_alone meaning done [] (o ∷ os) h = absurd h
are_alone meaning done (t ∷ ts) [] h = absurd h
are_alone meaning done (t ∷ ts) (o ∷ os) h = (h.0, are_alone meaning done ts os h.1)

honest_alone : (meaning : Meaning) (done : ℕ → Bool) (ts : List RepliedCall) (keys keys' : Keyspace) → HonestRun meaning keys done (command_logs ts) keys' → (owns : List (List (List Step))) × HonestAmongOthers meaning keys done ts (map alone owns) [] keys'
honest_alone meaning done ts keys keys' honest =
    let c = by_call meaning done ts honest.0 honest.1 in (
      c.0,
      record {
        requests = are_alone meaning done ts c.0 c.1;
        history = subst (λ q. History keys q keys') (ap concat c.2 ∙ sym (ap (map step_of) (alone_run c.0) ∙ steps_of_own (concat (concat c.0)))) honest.2;
      },
    )

-- ---- one server

abbrev now_of : List ServedCall → List CallTurns
now_of xs = map (λ (x : ServedCall). x.now) xs

abbrev own_steps : List CallTurns → List (List Step)
own_steps cs = concat (map (λ (c : CallTurns). c.own) cs)

abbrev responses_of : List ServedCall → List (List Response)
responses_of xs = map (λ (x : ServedCall). x.responses) xs

all_done : (meaning : Meaning) (done : ℕ → Bool) (ts : List RepliedCall) (xs : List ServedCall) → Pairwise (IsServed meaning done) ts xs → DoAll meaning (all_counting done ts) (own_steps (now_of xs)) (concat (responses_of xs))
all_done meaning done [] [] h = tt
all_done meaning done [] (x ∷ xs) h = absurd h
all_done meaning done (t ∷ ts) [] h = absurd h
all_done meaning done (t ∷ ts) (x ∷ xs) h =
    do_all-append meaning (counting done t.call t.answer t.log) (all_counting done ts) x.now.own (own_steps (now_of xs)) x.responses (concat (responses_of xs)) h.0.operations (all_done meaning done ts xs h.1)

all_counts : (meaning : Meaning) (done : ℕ → Bool) (ts : List RepliedCall) (xs : List ServedCall) → Pairwise (IsServed meaning done) ts xs → Pairwise (λ (t : RepliedCall) here. length here ≡ length (counting done t.call t.answer t.log)) ts (responses_of xs)
all_counts meaning done [] [] h = tt
all_counts meaning done [] (x ∷ xs) h = absurd h
all_counts meaning done (t ∷ ts) [] h = absurd h
all_counts meaning done (t ∷ ts) (x ∷ xs) h = (do_all_length meaning (counting done t.call t.answer t.log) x.now.own x.responses h.0.operations, all_counts meaning done ts xs h.1)

all_answers : (meaning : Meaning) (done : ℕ → Bool) (ts : List RepliedCall) (xs : List ServedCall) → Pairwise (IsServed meaning done) ts xs → Pairwise (λ (t : RepliedCall) here. IsAnswerBy done t.call t.log t.answer here) ts (responses_of xs)
all_answers meaning done [] [] h = tt
all_answers meaning done [] (x ∷ xs) h = absurd h
all_answers meaning done (t ∷ ts) [] h = absurd h
all_answers meaning done (t ∷ ts) (x ∷ xs) h = (h.0.answer, all_answers meaning done ts xs h.1)

-- on each slot the run's own steps are those that its requests made
own_same : (meaning : Meaning) (done : ℕ → Bool) (ts : List RepliedCall) (xs : List ServedCall) → Pairwise (IsServed meaning done) ts xs → (owns : List (List (List Step))) → map (λ (x : ServedCall). x.was) xs ≡ map alone owns → (s : ℕ)
    → on_slot s (concat (own_steps (now_of xs))) ≡ on_slot s (concat (concat owns))
own_same meaning done ts xs h owns e s =
    ap (on_slot s) (sym (own_of_run (now_of xs)))
    ∙ sym (own_on_slot s (run_turns (now_of xs) []))
    ∙ ap own_of (same_run meaning done ts xs [] h s ∙ ap (λ q. turns_on s (run_turns q [])) e)
    ∙ own_on_slot s (run_turns (map alone owns) [])
    ∙ ap (on_slot s) (ap own_of (alone_run owns) ∙ own_of_own (concat (concat owns)))
  where
    own_of_run : (cs : List CallTurns) → own_of (run_turns cs []) ≡ concat (own_steps cs)
    own_of_run cs = ap own_of (append-nil (concat (map call_turns cs))) ∙ own_calls cs

served_alone : (meaning : Meaning) (done : ℕ → Bool) (ts : List RepliedCall) (keys keys' : Keyspace) (owns : List (List (List Step))) → HonestAmongOthers meaning keys done ts (map alone owns) [] keys'
    → AsOneServerAmongOthers meaning keys done ts (map alone owns) [] keys' → AsOneServer meaning keys done ts keys'
served_alone meaning done ts keys keys' owns honest h = record {
  responses = responses_of h.served;
  counts = all_counts meaning done ts h.served h.each;
  served = (
    own_steps (now_of h.served),
    all_done meaning done ts h.served h.each,
    history_same_slots (concat (concat owns)) (concat (own_steps (now_of h.served))) keys keys' (λ s. sym (own_same meaning done ts h.served h.each owns h.all s))
        (subst (λ q. History keys q keys') (ap (map step_of) (alone_run owns) ∙ steps_of_own (concat (concat owns))) honest.history),
  );
  answers = all_answers meaning done ts h.served h.each;
}

-- what holds of a run whatever others do holds of it where they do nothing
pub from_among_others : (meaning : Meaning) (done : ℕ → Bool) (ts : List RepliedCall) (keys keys' : Keyspace)
    → ((calls : List CallTurns) → HonestAmongOthers meaning keys done ts calls [] keys' → AsOneServerAmongOthers meaning keys done ts calls [] keys')
    → HonestRun meaning keys done (command_logs ts) keys' → AsOneServer meaning keys done ts keys'
from_among_others meaning done ts keys keys' among honest =
    let a = honest_alone meaning done ts keys keys' honest in served_alone meaning done ts keys keys' a.0 a.1 (among (map alone a.0) a.1)

pub run_served : (strategy : Option Strategy) (faults : Address → LinkFault) (meaning : Meaning) (done : ℕ → Bool) (ts : List RepliedCall) (client : Client) (keys keys' : Keyspace) → GapsNameNoKey
    → AreOnSlots ts → IsPlayedFrom strategy client faults ts → HonestRun meaning keys done (command_logs ts) keys' → AsOneServer meaning keys done ts keys'
run_served strategy faults meaning done ts client keys keys' gaps on h =
    from_among_others meaning done ts keys keys' (λ calls. served_among_others strategy faults meaning done ts client keys keys' gaps on h calls [])
