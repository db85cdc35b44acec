-- Two plays whose replies say the same, from what `play` ensures: they show the same, and send each node the same bytes.
use Rattle.std.specs.Prelude.{◌||◌}
use Rattle.std.proofs.Common.{◌≡◌, ℕ, ◌+◌, Bool, false, List, [], ◌∷◌, ◌++◌, map, length, Option, Result, refl, sym, ap, ◌∙◌, subst}
use Rattle.std.specs.Io.KnownBytes.{Appends}
use Rattle.resp_core.specs.Errors.{Refusal}
use Rattle.resp_core.specs.Trees.{Tree}
use Rattle.cluster_routing.specs.Address.{Address}
use Rattle.cluster_routing.specs.Choice.{Strategy}
use Rattle.cluster_routing.specs.Lists.{concat}
use Rattle.cluster_calls.specs.Calls.Answer.{Answer}
use Rattle.cluster_calls.specs.Calls.Call.{Call}
use Rattle.cluster_calls.specs.Calls.Task.{task_of}
use Rattle.cluster_calls.specs.Links.Events.{taken_of}
use Rattle.cluster_calls.specs.Links.Faults.{LinkFault}
use Rattle.cluster_calls.specs.Links.Happened.{client_of}
use Rattle.cluster_calls.specs.Links.Log.{Exchange, exchanges, has_lost, left_after_all, replies}
use Rattle.cluster_calls.specs.Links.Nodes.{NodesMade, IsSentFor, link_calls}
use Rattle.cluster_calls.specs.Links.Play.{Plays, Shown, shown_of}
use Rattle.cluster_calls.specs.Links.Request.{Request, bytes_of, requests_to}
use Rattle.cluster_calls.specs.Links.Run.{HadMemory, whole_log, link_calls_to, run_calls}
use Rattle.cluster_calls.specs.Links.World.{Node, World}
use Rattle.cluster_calls.specs.OneServer.Headline.{PlayedCall, with_replies, IsPlayedFrom}
use Rattle.cluster_calls.specs.OneServer.Respelling.{respelling, respellings, SayTheSame}
use Rattle.cluster_calls.specs.OneServer.RespelledPlays.{SendsTo}
use Rattle.cluster_calls.proofs.LinkLaws.Pairing.{has_lost-append}
use Rattle.cluster_calls.proofs.LogLaws.RespelledRuns.{runs_alike, exchanged, none_lost_alike}
use Rattle.cluster_calls.proofs.LogLaws.SameLogs.{exchanges_then}

abbrev calls_in : List PlayedCall → List Call
calls_in ts = map (λ (t : PlayedCall). t.call) ts

abbrev logs_in : List PlayedCall → List (List Request)
logs_in ts = map (λ (t : PlayedCall). t.log) ts

abbrev answers_in : List PlayedCall → List (Result Answer Refusal)
answers_in ts = map (λ (t : PlayedCall). t.answer) ts

-- ---- what is shown

shown_alike : (ts us : List PlayedCall) → logs_in ts ≡ logs_in us → answers_in ts ≡ answers_in us → map shown_of ts ≡ map shown_of us
shown_alike [] [] l a = refl
shown_alike [] (u ∷ us) l a = cc
shown_alike (t ∷ ts) [] l a = cc
shown_alike (t ∷ ts) (u ∷ us) l a =
    let log : t.log ≡ u.log = cc in
    let answer : t.answer ≡ u.answer = cc in
    let logs : logs_in ts ≡ logs_in us = cc in
    let answers : answers_in ts ≡ answers_in us = cc in
    rw (log, answer, shown_alike ts us logs answers) refl

-- ---- no request is without its reply

joined : (a : Address) (qs rs : List Request) (f : Address → List Tree) (place : ℕ) → has_lost a (exchanges f place qs) ≡ false → has_lost a (exchanges (left_after_all f qs) (place + length qs) rs) ≡ false
    → has_lost a (exchanges f place (qs ++ rs)) ≡ false
joined a qs rs f place h k =
    ap (has_lost a) (exchanges_then qs rs f place) ∙ has_lost-append a (exchanges f place qs) (exchanges (left_after_all f qs) (place + length qs) rs)
    ∙ ap (λ b. b || has_lost a (exchanges (left_after_all f qs) (place + length qs) rs)) h ∙ k

all_replied : (ts : List PlayedCall) (queues queues' : Address → List Tree) (place : ℕ) → ((node : Address) → SayTheSame (respellings node ts) (queues node) (queues' node)) → (a : Address)
    → (has_lost a (exchanges queues place (whole_log ts)) ≡ false) × (has_lost a (exchanges queues' place (whole_log ts)) ≡ false)
all_replied [] queues queues' place s a = (refl, refl)
all_replied (t ∷ ts) queues queues' place s a =
    let r = exchanged (respelling t.call) t.log (λ node. respellings node ts) queues queues' place s in
    let here = none_lost_alike (respelling t.call) (exchanges queues place t.log) (exchanges queues' place t.log) r.0 a in
    let later = all_replied ts (left_after_all queues t.log) (left_after_all queues' t.log) (place + length t.log) r.1 a in
    (joined a t.log (whole_log ts) queues place here.0 later.0, joined a t.log (whole_log ts) queues' place here.1 later.1)

-- ---- bytes

abbrev sent_bytes : List PlayedCall → Address → List ℕ
sent_bytes ts a = bytes_of (concat (run_calls ts a))

calls_alike : (ts us : List PlayedCall) → calls_in ts ≡ calls_in us → logs_in ts ≡ logs_in us → (a : Address) → run_calls ts a ≡ run_calls us a
calls_alike [] [] c l a = refl
calls_alike [] (u ∷ us) c l a = cc
calls_alike (t ∷ ts) [] c l a = cc
calls_alike (t ∷ ts) (u ∷ us) c l a =
    let call : t.call ≡ u.call = cc in
    let log : t.log ≡ u.log = cc in
    let calls : calls_in ts ≡ calls_in us = cc in
    let logs : logs_in ts ≡ logs_in us = cc in
    let here : link_calls_to a t ≡ link_calls_to a u = ap (λ c. link_calls (task_of c) (requests_to a t.log)) call ∙ ap (λ l. link_calls (task_of u.call) (requests_to a l)) log in
    ap (λ cs. cs ++ run_calls ts a) here ∙ ap (λ cs. link_calls_to a u ++ cs) (calls_alike ts us calls logs a)

sends : (old new : List Node) (ts : List PlayedCall) (xs : List Exchange) (taken : Address → List Tree) (faults : Address → LinkFault) → NodesMade old new (run_calls ts) xs taken faults → ((a : Address) → has_lost a xs ≡ false)
    → SendsTo old new (sent_bytes ts)
sends old new ts xs taken faults made none a before after was now =
    let n = made.each a before after was now in
    let are : n.bytes ≡ sent_bytes ts a = subst (λ b. IsSentFor b (run_calls ts a) n.bytes) (n.kept (none a)).0 n.are in
    subst (λ bs. Appends before.sent after.sent bs) are n.sent

pub plays_alike : (strategy strategy' : Option Strategy) (old new old' new' : World) (calls calls' : List Call) (before after before' after' : List Shown) (all all' : Bool)
    → (p : Plays strategy old new calls before after all) → (q : Plays strategy' old' new' calls' before' after' all') → HadMemory p.run → HadMemory q.run → client_of old ≡ client_of old'
    → calls_in p.run ≡ calls_in q.run → map (λ (t : PlayedCall). t.picks) p.run ≡ map (λ (t : PlayedCall). t.picks) q.run
    → ((node : Address) → SayTheSame (respellings node p.run) (replies (taken_of p.is_run.events) node) (replies (taken_of q.is_run.events) node))
    → (map shown_of p.run ≡ map shown_of q.run) × ((bytes : Address → List ℕ) × SendsTo old.nodes new.nodes bytes × SendsTo old'.nodes new'.nodes bytes)
plays_alike strategy strategy' old new old' new' calls calls' before after before' after' all all' p q had had' same cs ps said =
    let r = p.is_run.played had in
    let s = q.is_run.played had' in
    let left = taken_of p.is_run.events in
    let right = taken_of q.is_run.events in
    let there = subst (λ c. IsPlayedFrom strategy' c s.faults (with_replies right q.run)) (sym same) s.played in
    let h = runs_alike strategy strategy' (client_of old) r.faults s.faults (replies left) (replies right) 0 p.run q.run cs ps r.played there said in
    let none = all_replied p.run (replies left) (replies right) 0 said in
    let none' : (a : Address) → has_lost a (exchanges (replies right) 0 (whole_log q.run)) ≡ false = λ a. ap (λ ls. has_lost a (exchanges (replies right) 0 (concat ls))) (sym h.0) ∙ (none a).1 in
    let ours = sends old.nodes new.nodes p.run (exchanges (replies left) 0 (whole_log p.run)) left r.faults r.made (λ a. (none a).0) in
    let theirs = sends old'.nodes new'.nodes q.run (exchanges (replies right) 0 (whole_log q.run)) right s.faults s.made none' in
    let bytes : (a : Address) → sent_bytes q.run a ≡ sent_bytes p.run a = λ a. ap (λ qss. bytes_of (concat qss)) (sym (calls_alike p.run q.run cs h.0 a)) in
    (shown_alike p.run q.run h.0 h.1, (sent_bytes p.run, ours, λ a b c was now. subst (λ bs. Appends b.sent c.sent bs) (bytes a) (theirs a b c was now)))
