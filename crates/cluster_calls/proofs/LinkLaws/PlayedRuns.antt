-- Calls one after another, with their link calls, are a run as a reader sees it.
use Rattle.std.proofs.Common.{◌≡◌, ℕ, ◌+◌, List, [], ◌∷◌, ◌++◌, length, refl, sym, ap, ◌∙◌, subst, append_assoc, append-nil, Result, Option}
use Rattle.resp_core.specs.Trees.{Tree}
use Rattle.resp_core.specs.Errors.{Refusal}
use Rattle.cluster_routing.specs.Address.{Address}
use Rattle.cluster_routing.specs.Choice.{Strategy}
use Rattle.cluster_calls.specs.Links.Request.{requests_to}
use Rattle.cluster_calls.specs.Links.Log.{exchanges, replies, left_after_all}
use Rattle.cluster_calls.specs.Links.World.{World}
use Rattle.cluster_calls.specs.Calls.Call.{Call}
use Rattle.cluster_calls.specs.Calls.Task.{task_of}
use Rattle.cluster_calls.specs.Links.Faults.{LinkFault}
use Rattle.cluster_calls.specs.Calls.Legal.{IsLegalCall}
use Rattle.cluster_calls.specs.Calls.Answer.{Answer, answer_of}
use Rattle.cluster_calls.specs.Calls.After.{client_after}
use Rattle.cluster_calls.specs.Links.Events.{Event, Runs, log_of, taken_of, calls_of, exchanges_of, Agrees, faults_of}
use Rattle.cluster_calls.specs.Links.Nodes.{link_calls}
use Rattle.cluster_calls.specs.Links.Happened.{client_of, CallMade, log_with_replies}
use Rattle.cluster_calls.specs.OneServer.Headline.{PlayedCall, with_replies_from, IsPlayedFrom}
use Rattle.cluster_calls.specs.Links.Run.{with_log, IsMovedOut, CallsMade, whole_log, link_calls_to, run_calls, HadMemory, RunPlayed, IsRun}
use Rattle.cluster_calls.proofs.LinkLaws.PlainAnswers.{no_memory_answer}
use Rattle.cluster_calls.proofs.LinkLaws.Pairing.{exchanges_same, left_same}
use Rattle.cluster_calls.proofs.LinkLaws.LinkRuns.{Runs-append, pairing, pairing_first, left_first, nodes_made}
use Rattle.cluster_calls.proofs.LinkLaws.EventLists.{log-append, calls-append}
use Rattle.cluster_calls.proofs.LinkLaws.FaultsAgree.{agrees, Agrees-front, Agrees-back}
use Rattle.cluster_calls.proofs.LinkLaws.Played.{NodesMade-same, client_behind}

-- ---- calls one after another

pub calls_run : (strategy : Option Strategy) (old new : World) (ts : List PlayedCall) (es : List Event) → CallsMade strategy old new ts es → Runs old.nodes new.nodes es
calls_run strategy old new [] es r = subst (λ xs. Runs old.nodes new.nodes xs) (sym r.1) (ap (λ (w : World). w.nodes) r.0)
calls_run strategy old new (t ∷ ts) es r =
    let now = r.2.happened.events in
    subst (λ xs. Runs old.nodes new.nodes xs) (sym r.3) (Runs-append old.nodes r.0.nodes new.nodes now r.1 r.2.happened.runs (calls_run strategy r.0 new ts r.1 r.4))

-- the log of the run is that of its link calls
pub calls_log : (strategy : Option Strategy) (old new : World) (ts : List PlayedCall) (es : List Event) → CallsMade strategy old new ts es → HadMemory ts → whole_log ts ≡ log_of es
calls_log strategy old new [] es r had = sym (ap log_of r.1)
calls_log strategy old new (t ∷ ts) es r had =
    let now = r.2.happened.events in
    let here : t.log ≡ log_of now = (r.2.answered had.0.0).logged in
    ap (λ qs. qs ++ whole_log ts) here ∙ ap (λ qs. log_of now ++ qs) (calls_log strategy r.0 new ts r.1 r.4 had.1) ∙ sym (log-append now r.1) ∙ sym (ap log_of r.3)

-- and so are the link calls to each node
pub calls_link_calls : (strategy : Option Strategy) (old new : World) (ts : List PlayedCall) (es : List Event) → CallsMade strategy old new ts es → HadMemory ts → (a : Address) → calls_of es a ≡ run_calls ts a
calls_link_calls strategy old new [] es r had a = ap (λ xs. calls_of xs a) r.1
calls_link_calls strategy old new (t ∷ ts) es r had a =
    let now = r.2.happened.events in
    let here : calls_of now a ≡ link_calls_to a t = r.2.happened.calls a ∙ ap (λ qs. link_calls (task_of t.call) (requests_to a qs)) (sym (r.2.answered had.0.0).logged) in
    ap (λ xs. calls_of xs a) r.3 ∙ calls-append now r.1 a ∙ ap (λ cs. cs ++ calls_of r.1 a) here ∙ ap (λ cs. link_calls_to a t ++ cs) (calls_link_calls strategy r.0 new ts r.1 r.4 had.1 a)

-- over what was taken from each node, each call is legal and answers what its replies make
pub calls_played : (strategy : Option Strategy) (old new : World) (ts : List PlayedCall) (es : List Event) → CallsMade strategy old new ts es → HadMemory ts
    → (queues : Address → List Tree) → ((a : Address) → queues a ≡ replies (taken_of es) a) → (place : ℕ) (faults : Address → LinkFault) → Agrees faults es → IsPlayedFrom strategy (client_of old) faults (with_replies_from queues place ts)
calls_played strategy old new [] es r had queues q place faults g = tt
calls_played strategy old new (t ∷ ts) es r had queues q place faults g =
    let now = r.2.happened.events in
    let more = r.1 in
    let a = r.2.answered had.0.0 in
    let client = client_of old in
    let runs : Runs old.nodes new.nodes (now ++ more) = Runs-append old.nodes r.0.nodes new.nodes now more r.2.happened.runs (calls_run strategy r.0 new ts more r.4) in
    let whole = replies (taken_of (now ++ more)) in
    let queued : (k : Address) → queues k ≡ whole k = λ k. q k ∙ ap (λ xs. replies (taken_of xs) k) r.3 in
    let logged : t.log ≡ log_of now = a.logged in
    let here : exchanges_of place now ≡ exchanges queues place t.log =
    sym (exchanges_same t.log queues whole place queued ∙ ap (λ l. exchanges whole place l) logged ∙ pairing_first old.nodes new.nodes now more place runs) in
    let left : (k : Address) → left_after_all queues t.log k ≡ replies (taken_of more) k =
    λ k. left_same t.log queues whole queued k ∙ ap (λ l. left_after_all whole l k) logged ∙ left_first old.nodes new.nodes now more runs k in
    let agreed : Agrees faults (now ++ more) = subst (λ xs. Agrees faults xs) r.3 g in
    let behind : client_of r.0 ≡ client_after client t.call (exchanges queues place t.log) =
    sym (client_behind strategy old (with_log r.0 t.log t.picks) t.call t.answer r.2.happened a place) ∙ ap (λ xs. client_after client t.call xs) here in (
      a.picks,
      subst (λ xs. IsLegalCall client t.picks t.call xs) here (a.legal place),
      no_memory_answer client t.picks faults t.call (exchanges_of place now) t.answer (a.answered faults (Agrees-front faults now more agreed) place) had.0
          ∙ ap (λ xs. answer_of client t.picks faults t.call xs) here,
      subst (λ c. IsPlayedFrom strategy c faults (with_replies_from (left_after_all queues t.log) (place + length t.log) ts)) behind
          (calls_played strategy r.0 new ts more r.4 had.1 (left_after_all queues t.log) left (place + length t.log) faults (Agrees-back faults now more agreed)),
    )

pub run_played : (strategy : Option Strategy) (old new : World) (ts : List PlayedCall) (es : List Event) → CallsMade strategy old new ts es → HadMemory ts → RunPlayed strategy old new ts (taken_of es)
run_played strategy old new ts es r had =
    let runs = calls_run strategy old new ts es r in
    let same : exchanges_of 0 es ≡ log_with_replies (taken_of es) (whole_log ts) =
    sym (ap (λ qs. exchanges (replies (taken_of es)) 0 qs) (calls_log strategy old new ts es r had) ∙ pairing old.nodes new.nodes es 0 runs) in
    record {
      faults = faults_of es;
      played = calls_played strategy old new ts es r had (replies (taken_of es)) (λ a. refl) 0 (faults_of es) (agrees old.nodes new.nodes es runs);
      made = NodesMade-same old.nodes new.nodes (calls_of es) (run_calls ts) (exchanges_of 0 es) (log_with_replies (taken_of es) (whole_log ts)) (taken_of es) (faults_of es)
          (calls_link_calls strategy old new ts es r had)
          same
          (nodes_made old.nodes new.nodes es 0 runs);
    }

pub run_faults : (strategy : Option Strategy) (old new : World) (ts : List PlayedCall) (es : List Event) (r : CallsMade strategy old new ts es) (had : HadMemory ts) (a : Address) → (run_played strategy old new ts es r had).faults a ≡ faults_of es a
unfolding run_played
run_faults strategy old new ts es r had a = refl

-- so code proves the calls alone
pub is_run : (strategy : Option Strategy) (old new : World) (ts : List PlayedCall) (es : List Event) → CallsMade strategy old new ts es → IsRun strategy old new ts
is_run strategy old new ts es r = record { events = es; calls = r; played = λ had. run_played strategy old new ts es r had }

-- ---- one more call

-- a call from this client, by these link calls
abbrev MadeFrom : Option Strategy → World → Call → Result Answer Refusal → List Event → World → Type 0
MadeFrom strategy new call answer es old = (m : CallMade strategy old new call answer) × (m.happened.events ≡ es)

pub calls_more : (strategy : Option Strategy) (old mid new : World) (ts : List PlayedCall) (t : PlayedCall) (es : List Event) → CallsMade strategy old mid ts es → (made : CallMade strategy mid (with_log new t.log t.picks) t.call t.answer)
    → IsMovedOut new t → CallsMade strategy old new (ts ++ t ∷ []) (es ++ made.happened.events)
calls_more strategy old mid new [] t es r made moved =
    let there = with_log new t.log t.picks in
    let now = made.happened.events in
    let here : MadeFrom strategy there t.call t.answer now old = subst (λ w. MadeFrom strategy there t.call t.answer now w) r.0 (made, refl) in
    (new, [], here.0, ap (λ xs. xs ++ now) r.1 ∙ sym here.1 ∙ sym (append-nil here.0.happened.events), (refl, refl), moved)
calls_more strategy old mid new (u ∷ ts) t es r made moved = (
  r.0,
  r.1 ++ made.happened.events,
  r.2,
  ap (λ xs. xs ++ made.happened.events) r.3 ∙ append_assoc r.2.happened.events r.1 made.happened.events,
  calls_more strategy r.0 mid new ts t r.1 r.4 made moved,
  r.5,
)
