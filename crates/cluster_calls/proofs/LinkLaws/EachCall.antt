-- A pipeline that was made and told each position's outcome is a call that was made.
use Rattle.std.specs.Prelude.{◌||◌}
use Rattle.std.proofs.Common.{◌≡◌, ◌≢◌, ℕ, List, [], ◌∷◌, Option, Result, Ok, Err, MatchResult, refl, sym, ap, ◌∙◌, subst, append-nil}
use Rattle.std.proofs.lemmas.Bool.{false≢true}
use Rattle.resp_core.specs.Trees.{Tree}
use Rattle.resp_core.specs.Errors.{Refusal, by_cause}
use Rattle.resp_core.specs.declared.errors.redis_error.Cause.TheVariants.{Memory}
use Rattle.cluster_routing.specs.Address.{Address}
use Rattle.cluster_routing.specs.Choice.{Strategy}
use Rattle.cluster_calls.specs.Links.Converted.{told_answer}
use Rattle.cluster_calls.specs.Links.EachMade.{EachAnswered, EachHappened, EachMade, NotSent}
use Rattle.cluster_calls.specs.Links.Events.{Event, Agrees, exchanges_of}
use Rattle.cluster_calls.specs.Links.Faults.{LinkFault}
use Rattle.cluster_calls.specs.Links.Happened.{client_of, BeginsLegal, Happened, Answered, CallMade}
use Rattle.cluster_calls.specs.Links.Log.{Exchange, requests}
use Rattle.cluster_calls.specs.Links.World.{World}
use Rattle.cluster_calls.specs.Calls.Answer.{IsAnswerOf}
use Rattle.cluster_calls.specs.Calls.Call.{Entry, Each}
use Rattle.cluster_calls.specs.Calls.EachInParts.{AreOutcomesOf, each_plan}
use Rattle.cluster_calls.specs.Calls.InParts.{in_parts, splits_in}
use Rattle.cluster_calls.specs.Calls.Legal.{AreMade, IsLegalCall}
use Rattle.cluster_calls.specs.Calls.Picks.{ArePicks}
use Rattle.cluster_calls.specs.Calls.Plan.{Client, plan}
use Rattle.cluster_calls.specs.Calls.Refusals.{refusal_in}
use Rattle.cluster_calls.specs.Calls.Task.{positions_of}
use Rattle.cluster_calls.proofs.LinkLaws.EachFaults.{each_is_told, nodes_apart}
use Rattle.cluster_calls.proofs.LinkLaws.EachPlans.{each_plan_is, each_planned, each_unpicked}
use Rattle.cluster_calls.proofs.LinkLaws.EventLists.{exchanged}
use Rattle.cluster_calls.proofs.LinkLaws.MovedLaws.{moved_once}
use Rattle.cluster_calls.proofs.LinkLaws.Played.{call_made}

module _ (strategy : Option Strategy) (old new : World) (entries : List Entry) where
  abbrev client : Client
  client = client_of old

  abbrev Outcomes : Type 0
  Outcomes = List (Result Tree Refusal)

  -- what was told of the call
  abbrev IsTold : List Event → Result Outcomes Refusal → Type 0
  IsTold events result = MatchResult result
      (λ outcomes. EachAnswered strategy old new (in_parts entries) events (λ each. AreOutcomesOf (splits_in entries) each outcomes))
      (λ refusal. NotSent old new (each_plan client [] entries) refusal)

  -- ---- where nothing was sent

  no_exchanges : (xs : List Exchange) → requests xs ≡ [] → xs ≡ []
  no_exchanges [] e = refl
  no_exchanges (x ∷ xs) e = cc

  none_picked : (events : List Event) (result : Result Outcomes Refusal) → IsTold events result → new.picked ≡ []
  none_picked events (Ok outcomes) told = told.unpicked
  none_picked events (Err refusal) told = ap (λ (w : World). w.picked) told.stays

  unsent_lacking : (events : List Event) (result : Result Outcomes Refusal) → IsTold events result → told_answer result ≡ Err (by_cause Memory) → new.log ≡ []
  unsent_lacking events (Ok outcomes) told lacks = cc
  unsent_lacking events (Err refusal) told lacks = ap (λ (w : World). w.log) told.stays

  are_picks : (events : List Event) (result : Result Outcomes Refusal) → IsTold events result → ArePicks strategy client (Each entries) new.picked
  are_picks events result told = subst (ArePicks strategy client (Each entries)) (sym (none_picked events result told)) (each_unpicked strategy client entries)

  refused : (refusal : Refusal) → NotSent old new (each_plan client [] entries) refusal → refusal ≢ by_cause Memory → plan client new.picked (Each entries) ≡ Err refusal
  refused refusal told m = ap (λ picks. plan client picks (Each entries)) (ap (λ (w : World). w.picked) told.stays) ∙ each_plan_is client [] entries ∙ told.refused m

  -- ---- the call

  module _ (h : EachHappened old new) where
    planned : (outcomes : Outcomes) → (told : IsTold h.events (Ok outcomes)) → plan client new.picked (Each entries) ≡ Ok told.dispatches
    planned outcomes told = each_planned client new.picked entries told.dispatches told.planned

    legal : (result : Result Outcomes Refusal) → IsTold h.events result → told_answer result ≢ Err (by_cause Memory) → (place : ℕ) → IsLegalCall client new.picked (Each entries) (exchanges_of place h.events)
    legal (Ok outcomes) told m place =
        subst (λ o. MatchResult o (λ ds. AreMade client (positions_of entries) ds (exchanges_of place h.events)) (λ refusal. exchanges_of place h.events ≡ [])) (sym (planned outcomes told)) (exchanged h.events place ∙ told.sent)
    legal (Err refusal) told m place =
        subst (λ o. MatchResult o (λ ds. AreMade client (positions_of entries) ds (exchanges_of place h.events)) (λ refusal. exchanges_of place h.events ≡ [])) (sym (refused refusal told (λ e. m (ap Err e))))
        (no_exchanges (exchanges_of place h.events) (exchanged h.events place ∙ sym h.logged ∙ ap (λ (w : World). w.log) told.stays))

    begins : (result : Result Outcomes Refusal) → IsTold h.events result → new.log ≢ [] → (place : ℕ) → BeginsLegal client new.picked (Each entries) (exchanges_of place h.events)
    begins (Ok outcomes) told some place =
        record { later = []; legal = subst (IsLegalCall client new.picked (Each entries)) (sym (append-nil (exchanges_of place h.events))) (legal (Ok outcomes) told (λ e. cc e) place) }
    begins (Err refusal) told some place = absurd (some (ap (λ (w : World). w.log) told.stays))

    abbrev each_happened : (result : Result Outcomes Refusal) → IsTold h.events result → Happened strategy old new (Each entries)
    each_happened result told = record {
      events = h.events;
      runs = h.runs;
      stops = λ e. absurd (false≢true (sym e));
      logged = h.logged;
      calls = h.calls;
      picks = λ some. are_picks h.events result told;
      begins = begins result told;
      settings = h.settings;
      map_stays = λ e. h.entries;
      flag = λ e. h.flag;
    }

    is_answer : (result : Result Outcomes Refusal) → IsTold h.events result → told_answer result ≢ Err (by_cause Memory) → (faults : Address → LinkFault) → Agrees faults h.events → (place : ℕ)
        → IsAnswerOf client new.picked faults (Each entries) (exchanges_of place h.events) (told_answer result)
    is_answer (Ok outcomes) told m faults agrees place = (
      ap refusal_in (planned outcomes told),
      subst (λ each. AreOutcomesOf (splits_in entries) each outcomes) (each_is_told faults client new.picked (in_parts entries) told.dispatches old.nodes new.nodes h.events place told.planned told.sent h.runs agrees) (told.each place),
    )
    is_answer (Err refusal) told m faults agrees place = rw (refused refusal told (λ e. m (ap Err e))) refl

    told_answered : (result : Result Outcomes Refusal) (told : IsTold h.events result) → told_answer result ≢ Err (by_cause Memory) → Answered strategy old new (Each entries) h.events (told_answer result)
    told_answered result told m = record {
      memory = λ e. absurd (false≢true (sym e));
      logged = h.logged;
      picks = are_picks h.events result told;
      legal = legal result told m;
      answered = is_answer result told m;
      entries = λ place. h.entries;
      flag = λ place. h.flag ∙ ap (λ b. old.needs_refresh || b) (moved_once old.nodes new.nodes h.events place h.runs (nodes_apart h.events h.calls));
    }

pub each_made : (strategy : Option Strategy) (old new : World) (entries : List Entry) (result : Result (List (Result Tree Refusal)) Refusal) → EachMade strategy old new entries result → CallMade strategy old new (Each entries) (told_answer result)
each_made strategy old new entries result made =
    let h = made.happened in
    call_made strategy old new (Each entries) (told_answer result) (each_happened strategy old new entries h result made.told) (told_answered strategy old new entries h result made.told) (λ e r. absurd (false≢true r))
    (λ e l. none_picked strategy old new entries h.events result made.told)
    (λ e some. absurd (some (unsent_lacking strategy old new entries h.events result made.told e)))

-- its link calls are those that happened
pub each_events : (strategy : Option Strategy) (old new : World) (entries : List Entry) (result : Result (List (Result Tree Refusal)) Refusal) (made : EachMade strategy old new entries result)
    → (each_made strategy old new entries result made).happened.events ≡ made.happened.events
unfolding each_made call_made
each_events strategy old new entries result made = refl
