-- What happened in a call that is no refresh, by its link calls; and a call whose parts were sent one after another, whatever is made of their replies.
use Rattle.std.proofs.Common.{◌≡◌, ◌≢◌, ℕ, false, true, List, [], ◌++◌, inr, refl, sym, ap, ◌∙◌, subst, Result, Ok, Err, Option}
use Rattle.resp_core.specs.Trees.{Tree}
use Rattle.resp_core.specs.Errors.{Refusal, by_cause}
use Rattle.resp_core.specs.declared.errors.redis_error.Cause.TheVariants.{Memory}
use Rattle.cluster_routing.specs.Address.{Address}
use Rattle.cluster_routing.specs.Choice.{Strategy}
use Rattle.cluster_calls.specs.Calls.Answer.{Answer, answer_of}
use Rattle.cluster_calls.specs.Calls.Call.{Call}
use Rattle.cluster_calls.specs.Calls.Legal.{AreMade, IsLegalCall, PartByPart}
use Rattle.cluster_calls.specs.Calls.Picks.{ArePicks}
use Rattle.cluster_calls.specs.Calls.Plan.{Dispatch, plan}
use Rattle.cluster_calls.specs.Calls.Task.{Task, task_of}
use Rattle.cluster_calls.specs.Links.Events.{Event, StopsAtMemory, exchanges_of}
use Rattle.cluster_calls.specs.Links.Faults.{LinkFault}
use Rattle.cluster_calls.specs.Links.Happened.{Answered, BeginsLegal, Happened, client_of, is_each, is_refresh}
use Rattle.cluster_calls.specs.Links.Lacking.{MayLack, follows_redirects}
use Rattle.cluster_calls.specs.Links.Log.{Exchange}
use Rattle.cluster_calls.specs.Links.PartRuns.{ArePartResults, PartsMade}
use Rattle.cluster_calls.specs.Links.Run.{with_log}
use Rattle.cluster_calls.specs.Links.World.{World}
use Rattle.cluster_calls.proofs.LinkLaws.Grown.{Grown}
use Rattle.cluster_calls.proofs.LinkLaws.LackingLists.{may_lack, some_events}
use Rattle.cluster_calls.proofs.LinkLaws.LinkCalls.{AreLinkCalls, link_calls_made}
use Rattle.cluster_calls.proofs.LinkLaws.MovedLaws.{answered_plain}
use Rattle.cluster_calls.proofs.LinkLaws.PlainAnswers.{plain_answer}

-- ---- a call by its link calls, which begin a legal log and leave the map

abbrev pub happened_by : (strategy : Option Strategy) (old new : World) (call : Call) (picks : List Address) (events : List Event) → Grown (with_log old [] picks) new events → StopsAtMemory events → AreLinkCalls (task_of call) events → ArePicks strategy (client_of old) call new.picked
    → ((place : ℕ) → BeginsLegal (client_of old) new.picked call (exchanges_of place events)) → Happened strategy old new call
happened_by strategy old new call picks events g stops links are begins = record {
  events = events;
  runs = g.runs;
  stops = λ e. stops;
  logged = g.logged;
  calls = link_calls_made old.nodes new.nodes events (task_of call) g.runs links;
  picks = λ some. are;
  begins = λ some. begins;
  settings = g.keeps.settings;
  map_stays = λ n. g.keeps.entries;
  flag = λ n. g.flag;
}

-- ---- a call of parts

module _ (strategy : Option Strategy) (old new : World) (call : Call) (task : Task) (is : task_of call ≡ task) (ds : List Dispatch) (picks : List Address) (result : Result (List Tree) Refusal)
    (planned : plan (client_of old) picks call ≡ Ok ds) (picked : ArePicks strategy (client_of old) call picks) (m : PartsMade (with_log old [] picks) new ds result)
    (goes : (xs : List Exchange) → PartByPart (client_of old) ds xs → AreMade (client_of old) task ds xs) (singles : AreLinkCalls task m.events) where
  pub plans : plan (client_of old) new.picked call ≡ Ok ds
  plans = subst (λ ps. plan (client_of old) ps call ≡ Ok ds) (sym m.picked) planned

  pub are : ArePicks strategy (client_of old) call new.picked
  are = subst (λ ps. ArePicks strategy (client_of old) call ps) (sym m.picked) picked

  pub legal : (xs : List Exchange) → PartByPart (client_of old) ds xs → IsLegalCall (client_of old) new.picked call xs
  legal xs parts = rw (plans, is) (goes xs parts)

  pub links : AreLinkCalls (task_of call) m.events
  links = subst (λ t. AreLinkCalls t m.events) (sym is) singles

  abbrev pub parts_happened : Happened strategy old new call
  parts_happened =
      happened_by strategy old new call picks m.events (record { runs = m.runs; logged = m.logged; flag = m.flag; keeps = record { entries = m.entries; settings = m.settings; picked = m.picked } }) m.stops links are
      (λ place. record { later = (m.begins place).0; legal = legal (exchanges_of place m.events ++ (m.begins place).0) (m.begins place).1 })

  -- what is answered, unless memory was refused
  pub parts_answered : (answer : Result Answer Refusal) → is_refresh call ≡ false → is_each call ≡ false → result ≢ Err (by_cause Memory)
      → ((faults : Address → LinkFault) (xs : List Exchange) → ArePartResults (client_of old) faults ds xs result → answer ≡ answer_of (client_of old) new.picked faults call xs) → Answered strategy old new call m.events answer
  parts_answered answer plain alone had told =
      let a = m.answered had in
      answered_plain strategy old new call answer parts_happened plain links (λ e. a.memory) m.logged are
      (λ place. legal (exchanges_of place m.events) (a.parts place))
      (λ faults agrees place. plain_answer (client_of old) new.picked faults call (exchanges_of place m.events) answer alone (told faults (exchanges_of place m.events) (a.tells faults agrees place)))

  -- where memory lacked behind the first byte
  pub parts_room : follows_redirects task ≡ true → ((refusal : Refusal) → result ≡ Err refusal → refusal ≡ by_cause Memory) → new.log ≢ [] → MayLack (client_of old) new.picked call m.events
  parts_room follows lacks some = by result refl
    where
      by : (r : Result (List Tree) Refusal) → result ≡ r → MayLack (client_of old) new.picked call m.events
      by (Ok trees) r = inr (inr (λ place. legal (exchanges_of place m.events) ((m.answered (λ k. cc)).parts place)))
      by (Err refusal) r =
          may_lack (client_of old) new.picked call m.events (ap follows_redirects is ∙ follows) (λ parts place. legal (exchanges_of place m.events) (parts place))
          (m.room (r ∙ ap (λ k. Err k) (lacks refusal r)) (some_events new.log m.events m.logged some))
