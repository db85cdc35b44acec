-- A call of the whole runs that asks no strategy and was answered, by what computes of it.
use Rattle.std.proofs.Common.{◌≡◌, ◌≢◌, ◌||◌, ℕ, false, List, [], append-nil, None, Err, refl, sym, subst, ◌∙◌}
use Rattle.std.proofs.lemmas.Bool.{false≢true}
use Rattle.resp_core.specs.Errors.{by_cause}
use Rattle.resp_core.specs.declared.errors.redis_error.Cause.TheVariants.{Memory}
use Rattle.cluster_routing.specs.Address.{Address}
use Rattle.cluster_calls.specs.Calls.Answer.{IsAnswerOf}
use Rattle.cluster_calls.specs.Calls.Legal.{IsLegalCall}
use Rattle.cluster_calls.specs.Calls.Task.{task_of}
use Rattle.cluster_calls.specs.Links.Events.{Agrees, Event, Runs, answered_moved, exchanges_of, lack_memory, log_of}
use Rattle.cluster_calls.specs.Links.Faults.{LinkFault}
use Rattle.cluster_calls.specs.Links.Happened.{CallMade, Happened, client_of, is_refresh}
use Rattle.cluster_calls.specs.Links.Run.{with_log}
use Rattle.cluster_calls.specs.Links.World.{World}
use Rattle.cluster_calls.specs.OneServer.Headline.{PlayedCall}
use Rattle.cluster_calls.proofs.LinkLaws.EventLists.{stops-had}
use Rattle.cluster_calls.proofs.LinkLaws.LinkCalls.{AreLinkCalls, link_calls_made}
use Rattle.cluster_calls.proofs.LinkLaws.MovedLaws.{answered_plain}
use Rattle.cluster_calls.proofs.LinkLaws.Played.{call_made}

-- the call was made, by these link calls; behind it its requests are moved out of the client
abbrev pub IsMade : World → World → PlayedCall → List Event → Type 0
IsMade old new t events = (made : CallMade None old (with_log new t.log t.picks) t.call t.answer) × (made.happened.events ≡ events)

-- what is equal where a call is no refresh, and no link call lacked memory
pub record AreAlike (old new : World) (t : PlayedCall) (events : List Event) : Type 0 where
  pub settings : new.settings ≡ old.settings
  pub entries : new.entries ≡ old.entries
  pub flag : new.needs_refresh ≡ (old.needs_refresh || answered_moved events)
  pub logged : t.log ≡ log_of events
  pub picks : t.picks ≡ []
  pub plain : is_refresh t.call ≡ false
  pub memory : lack_memory events ≡ false

module _ (old new : World) (t : PlayedCall) (events : List Event) (runs : Runs old.nodes new.nodes events) (links : AreLinkCalls (task_of t.call) events) (alike : AreAlike old new t events)
    (legal : (place : ℕ) → IsLegalCall (client_of old) t.picks t.call (exchanges_of place events)) where
  abbrev happened : Happened None old (with_log new t.log t.picks) t.call
  happened = record {
    events = events;
    runs = runs;
    stops = λ e. stops-had events alike.memory;
    logged = alike.logged;
    calls = link_calls_made old.nodes new.nodes events (task_of t.call) runs links;
    picks = λ some. alike.picks;
    begins = λ some place. record { later = []; legal = subst (IsLegalCall (client_of old) t.picks t.call) (sym (append-nil (exchanges_of place events))) (legal place) };
    settings = alike.settings;
    map_stays = λ no. alike.entries;
    flag = λ no. alike.flag;
  }

  pub made : t.answer ≢ Err (by_cause Memory) → ((faults : Address → LinkFault) → Agrees faults events → (place : ℕ) → IsAnswerOf (client_of old) t.picks faults t.call (exchanges_of place events) t.answer) → IsMade old new t events
  unfolding call_made
  made had answered = (
    call_made None old (with_log new t.log t.picks) t.call t.answer happened
        (λ m. answered_plain None old (with_log new t.log t.picks) t.call t.answer happened alike.plain links (λ e. alike.memory) alike.logged alike.picks legal answered)
        (λ lacks refreshes. absurd (false≢true (sym alike.plain ∙ refreshes)))
        (λ lacks none. alike.picks)
        (λ lacks some. absurd (had lacks)),
    refl,
  )
