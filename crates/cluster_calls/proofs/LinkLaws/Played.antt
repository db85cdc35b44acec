-- A call that happened and answered is played as a reader sees it.
use Rattle.std.proofs.Common.{◌≡◌, ◌≢◌, ℕ, true, false, List, [], sym, ap, ◌∙◌, subst, Option, Result, Err}
use Rattle.resp_core.specs.Trees.{Tree}
use Rattle.resp_core.specs.Errors.{Refusal, by_cause}
use Rattle.resp_core.specs.declared.errors.redis_error.Cause.TheVariants.{Memory}
use Rattle.cluster_routing.specs.Address.{Address}
use Rattle.cluster_routing.specs.Choice.{Strategy}
use Rattle.cluster_calls.specs.Links.Request.{Request, requests_to}
use Rattle.cluster_calls.specs.Links.Log.{Exchange, has_lost, exchanges, replies}
use Rattle.cluster_calls.specs.Links.World.{Node, World}
use Rattle.cluster_calls.specs.Calls.Call.{Call}
use Rattle.cluster_calls.specs.Calls.Task.{task_of}
use Rattle.cluster_calls.specs.Links.Faults.{LinkFault}
use Rattle.cluster_calls.specs.Calls.Legal.{IsLegalCall}
use Rattle.cluster_calls.specs.Calls.Answer.{Answer, answer_of, IsAnswerOf, TellsNoMemory}
use Rattle.cluster_calls.specs.Calls.Plan.{Client}
use Rattle.cluster_calls.specs.Calls.After.{map_after, flag_after, client_after}
use Rattle.cluster_calls.specs.Links.Events.{taken_of, calls_of, exchanges_of, faults_of}
use Rattle.cluster_calls.specs.Links.Lacking.{MayLack}
use Rattle.cluster_calls.specs.Links.Nodes.{NodeMade, NodesMade, link_calls}
use Rattle.cluster_calls.specs.Links.Happened.{client_of, is_each, is_refresh, Happened, Answered, LeavesMap, log_with_replies, Played, CallMade}
use Rattle.cluster_calls.proofs.LinkLaws.PlainAnswers.{no_memory_answer, plain_is}
use Rattle.cluster_calls.proofs.LinkLaws.LinkRuns.{nodes_made, pairing}
use Rattle.cluster_calls.proofs.LinkLaws.FaultsAgree.{agrees}
use Rattle.cluster_calls.proofs.LinkLaws.OpenLinks.{links_behind}

-- the same link calls and exchanges, written otherwise
pub NodesMade-same : (old new : List Node) (calls calls' : Address → List (List Request)) (xs xs' : List Exchange) (taken : Address → List Tree) (faults : Address → LinkFault) → ((a : Address) → calls a ≡ calls' a) → xs ≡ xs'
    → NodesMade old new calls xs taken faults → NodesMade old new calls' xs' taken faults
NodesMade-same old new calls calls' xs xs' taken faults same e n = record {
  addresses = n.addresses;
  each = λ a before after was now.
      subst (λ ys. NodeMade before after (calls' a) (taken a) (has_lost a ys) (faults a)) e
      (subst (λ cs. NodeMade before after cs (taken a) (has_lost a xs) (faults a)) (same a) (n.each a before after was now));
}

-- the answer is that of any exchanges that it can be told of
abbrev IsFunction : Client → List Address → Call → Result Answer Refusal → Type 0
IsFunction client picks call answer = (faults : Address → LinkFault) (xs : List Exchange) → IsAnswerOf client picks faults call xs answer → answer ≡ answer_of client picks faults call xs

played_by : (strategy : Option Strategy) (old new : World) (call : Call) (answer : Result Answer Refusal) (h : Happened strategy old new call) → Answered strategy old new call h.events answer → IsFunction (client_of old) new.picked call answer
    → Played old new call (taken_of h.events) answer
played_by strategy old new call answer h a is =
    let same : exchanges_of 0 h.events ≡ log_with_replies (taken_of h.events) new.log =
    sym (ap (λ qs. exchanges (replies (taken_of h.events)) 0 qs) a.logged ∙ pairing old.nodes new.nodes h.events 0 h.runs) in
    record {
      faults = faults_of h.events;
      legal = subst (λ xs. IsLegalCall (client_of old) new.picked call xs) same (a.legal 0);
      answered =
          is (faults_of h.events) (exchanges_of 0 h.events) (a.answered (faults_of h.events) (agrees old.nodes new.nodes h.events h.runs) 0)
          ∙ ap (λ xs. answer_of (client_of old) new.picked (faults_of h.events) call xs) same;
      made = NodesMade-same old.nodes new.nodes (calls_of h.events) (λ node. link_calls (task_of call) (requests_to node new.log)) (exchanges_of 0 h.events) (log_with_replies (taken_of h.events) new.log) (taken_of h.events) (faults_of h.events)
          (λ node. h.calls node ∙ ap (λ qs. link_calls (task_of call) (requests_to node qs)) (sym a.logged))
          same
          (nodes_made old.nodes new.nodes h.events 0 h.runs);
      entries = a.entries 0 ∙ ap (λ xs. map_after old.entries call xs) same;
      flag = a.flag 0 ∙ ap (λ xs. flag_after old.needs_refresh call xs) same;
    }

pub played : (strategy : Option Strategy) (old new : World) (call : Call) (answer : Result Answer Refusal) (h : Happened strategy old new call) → Answered strategy old new call h.events answer → TellsNoMemory answer
    → Played old new call (taken_of h.events) answer
played strategy old new call answer h a told = played_by strategy old new call answer h a (λ faults xs k. no_memory_answer (client_of old) new.picked faults call xs answer k told)

-- a call that tells no position is so wherever it was not refused for memory
pub plain_played : (strategy : Option Strategy) (old new : World) (call : Call) (answer : Result Answer Refusal) → is_each call ≡ false → (m : CallMade strategy old new call answer) → answer ≢ Err (by_cause Memory)
    → Played old new call (taken_of m.happened.events) answer
plain_played strategy old new call answer n m had =
    played_by strategy old new call answer m.happened (m.answered had) (λ faults xs k. plain_is (client_of old) new.picked faults call xs answer n k)

-- so code proves what happened and what was answered
unfoldable pub call_made : (strategy : Option Strategy) (old new : World) (call : Call) (answer : Result Answer Refusal) (h : Happened strategy old new call)
    → (answer ≢ Err (by_cause Memory) → Answered strategy old new call h.events answer) → (answer ≡ Err (by_cause Memory) → is_refresh call ≡ true → LeavesMap old new)
    → (answer ≡ Err (by_cause Memory) → new.log ≡ [] → new.picked ≡ []) → (answer ≡ Err (by_cause Memory) → new.log ≢ [] → MayLack (client_of old) new.picked call h.events) → CallMade strategy old new call answer
call_made strategy old new call answer h a m u r = record { happened = h; answered = a; played = λ told. played strategy old new call answer h (a told.0) told; memory = m; unpicked = u; room = r }

-- what the call leaves is the client behind its exchanges
pub client_behind : (strategy : Option Strategy) (old new : World) (call : Call) (answer : Result Answer Refusal) (h : Happened strategy old new call) → Answered strategy old new call h.events answer → (place : ℕ)
    → client_after (client_of old) call (exchanges_of place h.events) ≡ client_of new
client_behind strategy old new call answer h a place =
    let settings = h.settings in
    let entries = a.entries place in
    let links = links_behind old.nodes new.nodes h.events place h.runs in
    sym (λ i. record { settings = settings i; entries = entries i; links = links i })
