-- A run is as good as one server among others who use the keys too.
use Rattle.std.proofs.Common.{◌≡◌, ℕ, Bool, true, false, ◌==◌, List, [], ◌∷◌, ◌++◌, map, Option, refl, sym, ap, ◌∙◌, subst}
use Rattle.std.proofs.lemmas.Bool.{false≢true}
use Rattle.cluster_routing.specs.Address.{Address}
use Rattle.cluster_routing.specs.Choice.{Strategy}
use Rattle.cluster_routing.specs.Lists.{concat, Pairwise}
use Rattle.cluster_calls.specs.Calls.Plan.{Client}
use Rattle.cluster_calls.specs.Links.Faults.{LinkFault}
use Rattle.cluster_calls.specs.OneServer.Headline.{RepliedCall, IsPlayedFrom, AreOnSlots}
use Rattle.cluster_calls.specs.OneServer.Keyspace.{Keyspace, Step, on_slot}
use Rattle.cluster_calls.specs.OneServer.Laws.{GapsNameNoKey}
use Rattle.cluster_calls.specs.OneServer.Meaning.{Meaning}
use Rattle.cluster_calls.specs.OneServer.AmongOthers.{Turn, Other, step_of, in_turn, turns_on, CallTurns, call_turns, run_turns, TurnsLead, AreItsRequests, HonestAmongOthers, are_on_one_slot, ServedCall, IsServed, AsOneServerAmongOthers}
use Rattle.cluster_calls.proofs.ServerLaws.Calls.{CallServed}
use Rattle.cluster_calls.proofs.ServerLaws.Grouping.{filter-map}
use Rattle.cluster_calls.proofs.ServerLaws.Histories.{history_same_slots}
use Rattle.cluster_calls.proofs.ServerLaws.InPlace.{placed_again, same_on_one_slot}
use Rattle.cluster_calls.proofs.ServerLaws.Pieces.{SamePieces}
use Rattle.cluster_calls.proofs.ServerLaws.Runs.{AreOfCall, calls_served}
use Rattle.cluster_calls.proofs.ServerLaws.Turns.{turns-append, regrouped_turns}

are_of_calls : (meaning : Meaning) (done : ℕ → Bool) (ts : List RepliedCall) (calls : List CallTurns) → Pairwise (AreItsRequests meaning done) ts calls → Pairwise (AreOfCall meaning done) ts (map (λ (c : CallTurns). c.own) calls)
are_of_calls meaning done [] [] h = tt
are_of_calls meaning done [] (c ∷ cs) h = absurd h
are_of_calls meaning done (t ∷ ts) [] h = absurd h
are_of_calls meaning done (t ∷ ts) (c ∷ cs) h = (h.0, are_of_calls meaning done ts cs h.1)

-- what is served, call by call
record Found (meaning : Meaning) (done : ℕ → Bool) (ts : List RepliedCall) (calls : List CallTurns) : Type 0 where
  served : List ServedCall
  all : map (λ (s : ServedCall). s.was) served ≡ calls
  each : Pairwise (IsServed meaning done) ts served

-- others' steps between the operations
record Placed (during moves owns : List (List Step)) : Type 0 where
  others : List (List Step)
  same : (slot : ℕ) → turns_on slot (in_turn others owns) ≡ turns_on slot (in_turn during moves)
  in_place : are_on_one_slot (concat moves) ≡ true → in_turn others owns ≡ in_turn during moves

placed : (during moves owns : List (List Step)) → SamePieces owns moves → Placed during moves owns
placed during moves owns same = by (are_on_one_slot (concat moves)) refl
  where
    by : (b : Bool) → are_on_one_slot (concat moves) ≡ b → Placed during moves owns
    by true e = let r = placed_again owns moves during (same_on_one_slot owns moves e same) in record { others = r.0; same = λ s. ap (turns_on s) r.1; in_place = λ f. r.1 }
    by false e = let r = regrouped_turns moves owns during same in record { others = r.0; same = r.1; in_place = λ f. absurd (false≢true (sym e ∙ f)) }

found : (meaning : Meaning) (done : ℕ → Bool) (ts : List RepliedCall) (calls : List CallTurns) → Pairwise (λ (t : RepliedCall) own. CallServed meaning done t.call t.answer t.log own) ts (map (λ (c : CallTurns). c.own) calls) → Found meaning done ts calls
found meaning done [] [] h = record { served = []; all = refl; each = tt }
found meaning done [] (c ∷ cs) h = absurd h
found meaning done (t ∷ ts) [] h = absurd h
found meaning done (t ∷ ts) (c ∷ cs) h =
    let here = h.0 in
    let later = found meaning done ts cs h.1 in
    let place = placed c.during c.own here.served.0 here.served.2 in
    record {
      served = record { was = c; now = record { before = c.before; during = place.others; own = here.served.0 }; responses = here.responses } ∷ later.served;
      all = ap (λ q. c ∷ q) later.all;
      each = (record { operations = here.served.1; answer = here.answer_is; before = refl; same = place.same; in_place = place.in_place }, later.each);
    }

-- ---- the whole run, slot by slot

same_call : (meaning : Meaning) (done : ℕ → Bool) (t : RepliedCall) (x : ServedCall) → IsServed meaning done t x → (s : ℕ) → turns_on s (call_turns x.now) ≡ turns_on s (call_turns x.was)
same_call meaning done t x h s =
    ap (λ q. turns_on s (map Other q ++ in_turn x.now.during x.now.own)) h.before
    ∙ turns-append s (map Other x.was.before) (in_turn x.now.during x.now.own)
    ∙ ap (λ q. turns_on s (map Other x.was.before) ++ q) (h.same s)
    ∙ sym (turns-append s (map Other x.was.before) (in_turn x.was.during x.was.own))

same_calls : (meaning : Meaning) (done : ℕ → Bool) (ts : List RepliedCall) (xs : List ServedCall) → Pairwise (IsServed meaning done) ts xs → (s : ℕ)
    → turns_on s (concat (map call_turns (map (λ (x : ServedCall). x.now) xs))) ≡ turns_on s (concat (map call_turns (map (λ (x : ServedCall). x.was) xs)))
same_calls meaning done [] [] h s = refl
same_calls meaning done [] (x ∷ xs) h s = absurd h
same_calls meaning done (t ∷ ts) [] h s = absurd h
same_calls meaning done (t ∷ ts) (x ∷ xs) h s =
    let later = concat (map call_turns (map (λ (x : ServedCall). x.now) xs)) in
    let earlier = concat (map call_turns (map (λ (x : ServedCall). x.was) xs)) in
    turns-append s (call_turns x.now) later
    ∙ ap (λ q. q ++ turns_on s later) (same_call meaning done t x h.0 s)
    ∙ ap (λ q. turns_on s (call_turns x.was) ++ q) (same_calls meaning done ts xs h.1 s)
    ∙ sym (turns-append s (call_turns x.was) earlier)

pub same_run : (meaning : Meaning) (done : ℕ → Bool) (ts : List RepliedCall) (xs : List ServedCall) (last : List Step) → Pairwise (IsServed meaning done) ts xs → (s : ℕ)
    → turns_on s (run_turns (map (λ (x : ServedCall). x.now) xs) last) ≡ turns_on s (run_turns (map (λ (x : ServedCall). x.was) xs) last)
same_run meaning done ts xs last h s =
    turns-append s (concat (map call_turns (map (λ (x : ServedCall). x.now) xs))) (map Other last)
    ∙ ap (λ q. q ++ turns_on s (map Other last)) (same_calls meaning done ts xs h s)
    ∙ sym (turns-append s (concat (map call_turns (map (λ (x : ServedCall). x.was) xs))) (map Other last))

-- turns that are the same on each slot are the same steps there
pub same_steps : (xs ys : List Turn) → ((s : ℕ) → turns_on s xs ≡ turns_on s ys) → (s : ℕ) → on_slot s (map step_of xs) ≡ on_slot s (map step_of ys)
same_steps xs ys same s = sym (filter-map step_of (λ (x : Step). s == x.slot) xs) ∙ ap (map step_of) (same s) ∙ filter-map step_of (λ (x : Step). s == x.slot) ys

pub served_among_others : (strategy : Option Strategy) (faults : Address → LinkFault) (meaning : Meaning) (done : ℕ → Bool) (ts : List RepliedCall) (client : Client) (keys keys' : Keyspace) → GapsNameNoKey
    → AreOnSlots ts → IsPlayedFrom strategy client faults ts → (calls : List CallTurns) (last : List Step) → HonestAmongOthers meaning keys done ts calls last keys' → AsOneServerAmongOthers meaning keys done ts calls last keys'
served_among_others strategy faults meaning done ts client keys keys' gaps on h calls last honest =
    let f = found meaning done ts calls (calls_served strategy faults meaning done ts client (map (λ (c : CallTurns). c.own) calls) gaps on h (are_of_calls meaning done ts calls honest.requests)) in
    let now = run_turns (map (λ (x : ServedCall). x.now) f.served) last in
    let was = run_turns (map (λ (x : ServedCall). x.was) f.served) last in
    record {
      served = f.served;
      all = f.all;
      each = f.each;
      history = history_same_slots (map step_of was) (map step_of now) keys keys'
          (same_steps was now (λ s. sym (same_run meaning done ts f.served last f.each s)))
          (subst (λ q. TurnsLead keys (run_turns q last) keys') (sym f.all) honest.history);
    }
