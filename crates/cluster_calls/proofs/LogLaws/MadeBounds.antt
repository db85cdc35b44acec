-- The bound on the requests of a call, from what it promises.
use Rattle.std.proofs.Common.{◌≡◌, ◌+◌, ◌≤◌, List, [], ◌∷◌, ◌++◌, length, length-append, Option, Result, Ok, Err, MatchResult, refl, sym, ap, ◌∙◌, subst, arith}
use Rattle.std.proofs.lemmas.List.{length-map}
use Rattle.resp_core.specs.Errors.{Refusal}
use Rattle.cluster_routing.specs.Choice.{Strategy}
use Rattle.cluster_calls.specs.Links.Events.{Event, exchanges_of}
use Rattle.cluster_calls.specs.Links.Happened.{client_of, CallMade}
use Rattle.cluster_calls.specs.Links.Log.{Exchange}
use Rattle.cluster_calls.specs.Links.Request.{Request}
use Rattle.cluster_calls.specs.Links.Run.{with_log, CallsMade}
use Rattle.cluster_calls.specs.Links.World.{World}
use Rattle.cluster_calls.specs.Calls.Answer.{Answer}
use Rattle.cluster_calls.specs.Calls.Call.{Call}
use Rattle.cluster_calls.specs.Calls.Legal.{AreMade}
use Rattle.cluster_calls.specs.Calls.Plan.{Dispatch, plan}
use Rattle.cluster_calls.specs.Calls.Task.{task_of}
use Rattle.cluster_calls.specs.OneServer.Bounds.{planned_bound, call_bound, AreBounded}
use Rattle.cluster_calls.specs.OneServer.Headline.{PlayedCall}
use Rattle.cluster_calls.specs.OneServer.Laws.{request_bound}
use Rattle.cluster_calls.proofs.LinkLaws.EventLists.{exchanged}
use Rattle.cluster_calls.proofs.LogLaws.SentOnce.{requests_are_bounded}

none_there : (xs ys : List Exchange) → xs ++ ys ≡ [] → length xs ≡ 0
none_there [] ys e = refl
none_there (x ∷ xs) ys e = cc

pub call_bounded : (strategy : Option Strategy) (old new : World) (call : Call) (answer : Result Answer Refusal) → CallMade strategy old new call answer → length new.log ≤ call_bound (client_of old) new.picked call
call_bounded strategy old new call answer m = by new.log refl
  where
    xs : List Exchange
    xs = exchanges_of 0 m.happened.events

    as_long : length new.log ≡ length xs
    as_long = ap length (m.happened.logged ∙ sym (exchanged m.happened.events 0)) ∙ length-map _ _

    by : (log : List Request) → new.log ≡ log → length new.log ≤ call_bound (client_of old) new.picked call
    by [] e = let n : length new.log ≡ 0 = ap length e in omega (arith, n)
    by (q ∷ qs) e =
        let b = m.happened.begins (λ none. cc) 0 in
        at (plan (client_of old) new.picked call) refl b.later b.legal
      where
        at : (o : Result (List Dispatch) Refusal) → plan (client_of old) new.picked call ≡ o → (later : List Exchange) → MatchResult o (λ ds. AreMade (client_of old) (task_of call) ds (xs ++ later)) (λ refusal. xs ++ later ≡ [])
            → length new.log ≤ planned_bound (client_of old) (task_of call) o
        at (Ok ds) p later legal =
            let whole : length (xs ++ later) ≤ request_bound old.settings.budget (length ds) (task_of call) =
            requests_are_bounded (client_of old) new.picked call ds (xs ++ later) p (subst (λ o. MatchResult o (λ ds. AreMade (client_of old) (task_of call) ds (xs ++ later)) (λ refusal. xs ++ later ≡ [])) (sym p) legal) in
            let l : length (xs ++ later) ≡ length xs + length later = length-append xs later in
            let n = as_long in
            omega (arith, whole, l, n)
        at (Err refusal) p later legal = let n = as_long in let z = none_there xs later legal in omega (arith, n, z)

pub run_bounded : (strategy : Option Strategy) (old new : World) (ts : List PlayedCall) (events : List Event) (made : CallsMade strategy old new ts events) → AreBounded strategy old new ts events made
run_bounded strategy old new [] events made = tt
run_bounded strategy old new (t ∷ ts) events made =
    (call_bounded strategy old (with_log made.0 t.log t.picks) t.call t.answer made.2, run_bounded strategy made.0 new ts made.1 made.4)
