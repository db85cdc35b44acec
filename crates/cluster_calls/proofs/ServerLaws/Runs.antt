-- A run is as good as one server, and is refused as its kinds say.
use Rattle.std.proofs.Common.{◌≡◌, ℕ, Bool, true, false, cond, ◌&&◌, List, [], ◌∷◌, ◌++◌, map, Option, Some, None, Result, Ok, Err, refl, sym, ap, ◌∙◌, subst, append_assoc}
use Rattle.std.specs.Prelude.{bytes_eq, is_none}
use Rattle.std.proofs.lemmas.Bool.{and_parts, false≢true}
use Rattle.resp_core.specs.Errors.{Refusal}
use Rattle.resp_core.specs.Parts.{or_else}
use Rattle.cluster_routing.specs.Address.{Address}
use Rattle.cluster_routing.specs.Choice.{Strategy}
use Rattle.cluster_routing.specs.Lists.{concat, is_distinct, Pairwise}
use Rattle.cluster_routing.specs.Policies.{or_bad_reply}
use Rattle.stream_commands.specs.Settings.{ReadSettings}
use Rattle.cluster_calls.specs.Links.Log.{Exchange}
use Rattle.cluster_calls.specs.Calls.Call.{Stream, Xread, Call, Refresh, Query, Ordered, Pipeline, Each, FanOut, At, OnStreams, Transaction}
use Rattle.cluster_calls.specs.Calls.Task.{read_of, task_of, sentence_task, is_by_key, stream_keys}
use Rattle.cluster_calls.specs.Calls.Parts.{result_then, unless}
use Rattle.cluster_calls.specs.Calls.Plan.{Client, Dispatch, plan}
use Rattle.cluster_calls.specs.Calls.Legal.{IsLegalCall}
use Rattle.cluster_calls.specs.Links.Faults.{LinkFault}
use Rattle.cluster_calls.specs.Calls.Refusals.{refusal_in, sent_refusal}
use Rattle.cluster_calls.specs.Calls.Answer.{Answer, Refreshed, call_answer, answer_of, kind}
use Rattle.cluster_calls.specs.Calls.After.{client_after}
use Rattle.cluster_calls.specs.OneServer.Keyspace.{Step}
use Rattle.cluster_calls.specs.OneServer.Meaning.{Meaning}
use Rattle.cluster_calls.specs.OneServer.Honest.{Accounts, AccountsFor}
use Rattle.cluster_calls.specs.OneServer.Commands.{is_on_slots}
use Rattle.cluster_calls.specs.OneServer.Operations.{task_operation}
use Rattle.cluster_calls.specs.OneServer.Headline.{RepliedCall, task_log, command_log, command_logs, IsPlayedFrom, AreOnSlots, RefusedByKind}
use Rattle.cluster_calls.specs.OneServer.Laws.{GapsNameNoKey}
use Rattle.cluster_calls.proofs.LogLaws.StreamTasks.{stream_tasks}
use Rattle.cluster_calls.proofs.ServerLaws.Grouping.{pairwise-split}
use Rattle.cluster_calls.proofs.ServerLaws.Pieces.{HonestIn}
use Rattle.cluster_calls.proofs.ServerLaws.Calls.{CallServed, command_served, nothing_done}
use Rattle.cluster_calls.proofs.ServerLaws.ReadCall.{read_served}
use Rattle.cluster_calls.proofs.ServerLaws.Pipes.{pipeline_served}
use Rattle.cluster_calls.proofs.ServerLaws.Positions.{each_served}
use Rattle.cluster_calls.proofs.ServerLaws.AsOne.{transaction_served}

pub concat-append : {X : Type 0} (xss yss : List (List X)) → concat (xss ++ yss) ≡ concat xss ++ concat yss
concat-append [] yss = refl
concat-append (xs ∷ xss) yss = ap (λ q. xs ++ q) (concat-append xss yss) ∙ sym (append_assoc xs (concat xss) (concat yss))

-- steps that account for a call's requests
abbrev pub AreOfCall : Meaning → (ℕ → Bool) → RepliedCall → List (List Step) → Type 0
AreOfCall meaning done t own = Pairwise (Accounts meaning done t.call) (task_log (task_of t.call) t.log) own

-- one call's requests by the call
of_one_call : (meaning : Meaning) (done : ℕ → Bool) (call : Call) (xs : List Exchange) (ss : List (List Step)) → Pairwise (AccountsFor meaning done) (map (λ x. (call, x)) xs) ss → Pairwise (Accounts meaning done call) xs ss
of_one_call meaning done call [] [] h = tt
of_one_call meaning done call [] (s ∷ ss) h = absurd h
of_one_call meaning done call (x ∷ xs) [] h = absurd h
of_one_call meaning done call (x ∷ xs) (s ∷ ss) h = (h.0, of_one_call meaning done call xs ss h.1)

-- the steps of a run, call by call
pub by_call : (meaning : Meaning) (done : ℕ → Bool) (ts : List RepliedCall) (ss : List (List Step)) → Pairwise (AccountsFor meaning done) (command_logs ts) ss
    → (moves : List (List (List Step))) × Pairwise (AreOfCall meaning done) ts moves × (ss ≡ concat moves)
by_call meaning done [] [] h = ([], tt, refl)
by_call meaning done [] (s ∷ ss) h = absurd h
by_call meaning done (t ∷ ts) ss h =
    let p = pairwise-split (AccountsFor meaning done) (command_log t) (command_logs ts) ss h in
    let r = by_call meaning done ts p.1 p.4 in
    (p.0 ∷ r.0, (of_one_call meaning done t.call (task_log (task_of t.call) t.log) p.0 p.3, r.1), p.2 ∙ ap (λ q. p.0 ++ q) r.2)

-- a read in parts is of keys that all differ
reads_differ : (call : Call) (options : ReadSettings) (streams : List Stream) → task_of call ≡ read_of options streams → is_distinct bytes_eq (stream_keys streams) ≡ true
reads_differ (OnStreams (Xread read settings)) options streams t = by (is_by_key settings (stream_keys read)) refl t
  where
    by : (b : Bool) → is_by_key settings (stream_keys read) ≡ b → cond b (read_of settings read) (sentence_task (Xread read settings)) ≡ read_of options streams → is_distinct bytes_eq (stream_keys streams) ≡ true
    by true k e =
        let same : read ≡ streams = cc in
        subst (λ ss. is_distinct bytes_eq (stream_keys ss) ≡ true) same (and_parts (is_none settings.group && is_none settings.block) (is_distinct bytes_eq (stream_keys read)) k).1
    by false k e = cc
reads_differ call options streams t = cc

-- each call
pub call_served : (client : Client) (faults : Address → LinkFault) (meaning : Meaning) (moves : List (List Step)) (done : ℕ → Bool) (picks : List Address) (call : Call) (xs : List Exchange) → GapsNameNoKey
    → is_on_slots call ≡ true → IsLegalCall client picks call xs → HonestIn meaning done (task_operation (task_of call)) (task_log (task_of call) xs) moves → CallServed meaning done call (answer_of client picks faults call xs) xs moves
call_served client faults meaning moves done picks (Query command number) xs gaps s legal honest = command_served client faults meaning moves done picks (Query command number) command number None refl xs honest legal
call_served client faults meaning moves done picks (Ordered command order number) xs gaps s legal honest = command_served client faults meaning moves done picks (Ordered command order number) command number (Some order) refl xs honest legal
call_served client faults meaning moves done picks (OnStreams call) xs gaps s legal honest =
    stream_tasks (λ task. task_of (OnStreams call) ≡ task → HonestIn meaning done (task_operation task) (task_log task xs) moves → CallServed meaning done (OnStreams call) (answer_of client picks faults (OnStreams call) xs) xs moves)
    (λ command number order t h. command_served client faults meaning moves done picks (OnStreams call) command number order t xs h legal)
    (λ options streams t h. read_served client faults meaning moves done picks options streams (reads_differ (OnStreams call) options streams t) (OnStreams call) t xs h legal) call refl honest
call_served client faults meaning moves done picks (Pipeline entries) xs gaps s legal honest = pipeline_served client faults meaning moves done picks entries xs gaps legal honest
call_served client faults meaning moves done picks (Each entries) xs gaps s legal honest = each_served client faults meaning moves done picks entries xs gaps legal honest
call_served client faults meaning moves done picks (FanOut command) xs gaps s legal honest = absurd (false≢true s)
call_served client faults meaning moves done picks (At node command) xs gaps s legal honest = absurd (false≢true s)
call_served client faults meaning moves done picks (Transaction commands) xs gaps s legal honest = transaction_served client faults meaning moves done picks commands xs legal honest
call_served client faults meaning moves done picks (Refresh node) xs gaps s legal honest = by (plan client picks (Refresh node)) (sent_refusal client faults (task_of (Refresh node)) xs)
  where
    by : (o : Result (List Dispatch) Refusal) (r : Option Refusal) → CallServed meaning done (Refresh node) (result_then o (λ ds. unless r (Ok Refreshed))) xs moves
    by (Err e) r = record { responses = []; served = ([], tt, nothing_done meaning moves done (task_operation (task_of (Refresh node))) honest); answer_is = tt }
    by (Ok ds) (Some e) = record { responses = []; served = ([], tt, nothing_done meaning moves done (task_operation (task_of (Refresh node))) honest); answer_is = tt }
    by (Ok ds) None = record { responses = []; served = ([], tt, nothing_done meaning moves done (task_operation (task_of (Refresh node))) honest); answer_is = (refl, refl) }

-- each call of a run
pub calls_served : (strategy : Option Strategy) (faults : Address → LinkFault) (meaning : Meaning) (done : ℕ → Bool) (ts : List RepliedCall) (client : Client) (moves : List (List (List Step))) → GapsNameNoKey
    → AreOnSlots ts → IsPlayedFrom strategy client faults ts → Pairwise (AreOfCall meaning done) ts moves → Pairwise (λ (t : RepliedCall) own. CallServed meaning done t.call t.answer t.log own) ts moves
calls_served strategy faults meaning done [] client [] gaps on h honest = tt
calls_served strategy faults meaning done [] client (m ∷ ms) gaps on h honest = absurd honest
calls_served strategy faults meaning done (t ∷ ts) client [] gaps on h honest = absurd honest
calls_served strategy faults meaning done (t ∷ ts) client (m ∷ ms) gaps on h honest = (
  subst (λ a. CallServed meaning done t.call a t.log m) (sym h.2) (call_served client faults meaning m done t.picks t.call t.log gaps on.0 h.1 (m, honest.0, λ slot. refl)),
  calls_served strategy faults meaning done ts (client_after client t.call t.log) ms gaps on.1 h.3 honest.1,
)

-- the kind is what the answer says
pub kind_is : (client : Client) (picks : List Address) (faults : Address → LinkFault) (call : Call) (xs : List Exchange) → refusal_in (answer_of client picks faults call xs) ≡ kind client picks faults call xs
kind_is client picks faults call xs = by (plan client picks call) (sent_refusal client faults (task_of call) xs) (or_bad_reply (call_answer faults call xs))
  where
    by : (o : Result (List Dispatch) Refusal) (s : Option Refusal) (a : Result Answer Refusal) → refusal_in (result_then o (λ ds. unless s a)) ≡ or_else (refusal_in o) (or_else s (refusal_in a))
    by (Err r) s a = refl
    by (Ok ds) (Some r) a = refl
    by (Ok ds) None a = refl

pub run_refused : (strategy : Option Strategy) (faults : Address → LinkFault) (ts : List RepliedCall) (client : Client) → IsPlayedFrom strategy client faults ts → RefusedByKind client faults ts
run_refused strategy faults [] client h = tt
run_refused strategy faults (t ∷ ts) client h =
    (ap refusal_in h.2 ∙ kind_is client t.picks faults t.call t.log, run_refused strategy faults ts (client_after client t.call t.log) h.3)
