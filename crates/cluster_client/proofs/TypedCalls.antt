-- A call on streams is its command's call, whose reply is read as a record.
use Rattle.std.specs.Prelude.{◌⊎◌}
use Rattle.std.proofs.Common.{◌≡◌, ◌≢◌, ℕ, true, false, cond, List, [], map, Option, Some, None, option_map, option_and_then, refl, sym, ap, ◌∙◌, subst, Result, Ok, Err, inl, inr}
use Rattle.std.proofs.lemmas.Bool.{false≢true}
use Rattle.std.proofs.lemmas.Simd.{map-map}
use Rattle.resp_core.specs.Trees.{Tree}
use Rattle.resp_core.specs.Errors.{Refusal, Unreadable, refused, no_memory, unread, by_cause}
use Rattle.resp_core.specs.declared.errors.redis_error.Cause.TheVariants.{Memory}
use Rattle.resp_args.specs.Convert.{Answers}
use Rattle.cluster_routing.specs.Address.{Address}
use Rattle.cluster_routing.specs.Choice.{Strategy}
use Rattle.cluster_routing.specs.Policies.{bad_reply, or_bad_reply}
use Rattle.stream_commands.specs.Commands as commands
use Rattle.stream_commands.specs.Settings.{ReadSettings}
use Rattle.stream_commands.specs.Commands.{plain_command}
use Rattle.cluster_calls.specs.Links.Converted.{ConvertsTo, ReplyMade, value_answer}
use Rattle.cluster_calls.specs.Links.Events.{Event, exchanges_of, log_of}
use Rattle.cluster_calls.specs.Links.Lacking.{MayLack, follows_redirects}
use Rattle.cluster_calls.specs.Links.Faults.{LinkFault}
use Rattle.cluster_calls.specs.Links.Happened.{client_of, is_refresh, BeginsLegal, Happened, CallMade}
use Rattle.cluster_calls.specs.Links.Log.{Exchange}
use Rattle.cluster_calls.specs.Links.Nodes.{link_calls}
use Rattle.cluster_calls.specs.Links.Request.{requests_to}
use Rattle.cluster_calls.specs.Links.Run.{with_log}
use Rattle.cluster_calls.specs.Links.Typed.{IsReadBy, StreamCallMade, record_answer, streams_by}
use Rattle.cluster_calls.specs.Links.World.{World}
use Rattle.cluster_calls.specs.Calls.Answer.{Answer, Value, answer_of, reply_of, stream_answer}
use Rattle.cluster_calls.specs.Calls.Call.{Call, Query, Stream, StreamCall, Xread, OnStreams}
use Rattle.cluster_calls.specs.Calls.Legal.{IsLegalCall}
use Rattle.cluster_calls.specs.Calls.Parts.{result_then, unless}
use Rattle.cluster_calls.specs.Calls.Picks.{ArePicks, ArePicksOf}
use Rattle.cluster_calls.specs.Calls.Plan.{Client, Dispatch, call_parts, dispatches, in_order, order_of, plan}
use Rattle.cluster_calls.specs.Calls.Refusals.{sent_refusal}
use Rattle.cluster_calls.specs.Calls.Task.{is_by_key, one_command, read_of, sentence, sentence_task, stream_keys, stream_ids, stream_refusal, stream_task}
use Rattle.cluster_calls.specs.Calls.TaskParts.{task_parts}
use Rattle.cluster_client.proofs.Ending.{room_read}
use Rattle.cluster_calls.proofs.LinkLaws.OneCommand.{refused_by, relogged_untouched, not_begun, not_sent, reply_not_begun}
use Rattle.cluster_calls.proofs.LinkLaws.Played.{call_made}
use Rattle.cluster_steps.proofs.Dispatched.{plan_unparted, picks_unparted}

-- what a reply reads as, or why there is none
abbrev pub read_by : (Tree → Option Answer) → Result Tree Refusal → Result Answer Refusal
read_by read (Ok tree) = or_bad_reply (read tree)
read_by read (Err refusal) = Err refusal

-- where a reply answers its command, what it reads as answers the call
read_alike : (read : Tree → Option Answer) (planned : Result (List Dispatch) Refusal) (stopped : Option Refusal) (o : Option Tree) (r : Result Tree Refusal)
    → value_answer r ≡ result_then planned (λ ds. unless stopped (or_bad_reply (option_and_then (λ tree. Some (Value tree)) o)))
    → read_by read r ≡ result_then planned (λ ds. unless stopped (or_bad_reply (option_and_then read o)))
read_alike read (Err refusal) stopped o (Ok tree) e = cc
read_alike read (Err refusal) stopped o (Err refusal') e = let same : refusal' ≡ refusal = cc in ap (λ k. Err k) same
read_alike read (Ok ds) (Some refusal) o (Ok tree) e = cc
read_alike read (Ok ds) (Some refusal) o (Err refusal') e = let same : refusal' ≡ refusal = cc in ap (λ k. Err k) same
read_alike read (Ok ds) None None (Ok tree) e = cc
read_alike read (Ok ds) None None (Err refusal') e = let same : refusal' ≡ bad_reply = cc in ap (λ k. Err k) same
read_alike read (Ok ds) None (Some tree') (Ok tree) e = let same : tree ≡ tree' = cc in ap (λ t. or_bad_reply (read t)) same
read_alike read (Ok ds) None (Some tree') (Err refusal') e = cc

refused_alike : (refusal refusal' : Refusal) → value_answer (Err refusal) ≡ Err refusal' → refusal ≡ refusal'
refused_alike refusal refusal' e = cc

-- the reply had memory where what it reads as had
had_memory : (read : Tree → Option Answer) (r : Result Tree Refusal) (a : Result Answer Refusal) → (a ≢ Err (by_cause Memory) → a ≡ read_by read r) → a ≢ Err (by_cause Memory) → value_answer r ≢ Err (by_cause Memory)
had_memory read (Ok tree) a is had = λ e. cc
had_memory read (Err refusal) a is had = λ e. had (is had ∙ ap (λ k. Err k) (refused_alike refusal (by_cause Memory) e))

module _ (strategy : Option Strategy) (old new : World) (call : StreamCall) (fits : stream_refusal call ≡ None) (sentenced : stream_task call ≡ sentence_task call) where
  abbrev query : Call
  query = Query (plain_command (sentence call)) 0

  parts_alike : (client : Client) → call_parts client (OnStreams call) ≡ call_parts client query
  parts_alike client = ap (λ why. unless why (task_parts client.settings.read_only client.entries (stream_task call))) fits ∙ ap (task_parts client.settings.read_only client.entries) sentenced

  plans_alike : (client : Client) (picks : List Address) → plan client picks (OnStreams call) ≡ plan client picks query
  plans_alike client picks =
      ap (λ r. result_then r (λ ps. result_then (dispatches client picks ps) (λ ds. Ok (in_order (order_of (stream_task call)) ds)))) (parts_alike client)
      ∙ ap (λ task. result_then (call_parts client query) (λ ps. result_then (dispatches client picks ps) (λ ds. Ok (in_order (order_of task) ds)))) sentenced

  picks_alike : (s : Option Strategy) (client : Client) (picks : List Address) → ArePicks s client query picks → ArePicks s client (OnStreams call) picks
  picks_alike None client picks h = h
  picks_alike (Some admits) client picks h = subst (λ parts. ArePicksOf admits client parts picks) (sym (parts_alike client)) h

  legal_alike : (client : Client) (picks : List Address) (xs : List Exchange) → IsLegalCall client picks query xs → IsLegalCall client picks (OnStreams call) xs
  legal_alike client picks xs h = rw (plans_alike client picks, sentenced) h

  begins_alike : (client : Client) (picks : List Address) (xs : List Exchange) → BeginsLegal client picks query xs → BeginsLegal client picks (OnStreams call) xs
  begins_alike client picks xs b = record { later = b.later; legal = legal_alike client picks _ b.legal }

  lacks_alike : (events : List Event) → MayLack (client_of old) new.picked query events → MayLack (client_of old) new.picked (OnStreams call) events
  lacks_alike events (inl lacks) = inl lacks
  lacks_alike events (inr (inl redirected)) = inr (inl (ap follows_redirects sentenced, redirected.1))
  lacks_alike events (inr (inr whole)) = inr (inr (λ place. legal_alike (client_of old) new.picked (exchanges_of place events) (whole place)))

  abbrev happened_alike : Happened strategy old new query → Happened strategy old new (OnStreams call)
  happened_alike h = record {
    events = h.events;
    runs = h.runs;
    stops = h.stops;
    logged = h.logged;
    calls = λ node. h.calls node ∙ ap (λ task. link_calls task (requests_to node (log_of h.events))) (sym sentenced);
    picks = λ some. picks_alike strategy (client_of old) new.picked (h.picks some);
    begins = λ some place. begins_alike (client_of old) new.picked (exchanges_of place h.events) (h.begins some place);
    settings = h.settings;
    map_stays = h.map_stays;
    flag = h.flag;
  }

  answers_alike : (client : Client) (picks : List Address) (faults : Address → LinkFault) (xs : List Exchange) (r : Result Tree Refusal) → value_answer r ≡ answer_of client picks faults query xs
      → read_by (stream_answer call) r ≡ answer_of client picks faults (OnStreams call) xs
  answers_alike client picks faults xs r e =
      let task = one_command (plain_command (sentence call)) 0 None in
      rw (plans_alike client picks, sentenced) (read_alike (stream_answer call) (plan client picks query) (sent_refusal client faults task xs) (reply_of faults task xs) r e)

  -- the call was made, if its command was, and answers what the reply reads as
  pub typed_made : (r : Result Tree Refusal) (a : Result Answer Refusal) → CallMade strategy old new query (value_answer r) → (a ≢ Err (by_cause Memory) → a ≡ read_by (stream_answer call) r)
      → (a ≡ Err (by_cause Memory) → new.log ≡ [] → new.picked ≡ []) → (a ≡ Err (by_cause Memory) → (value_answer r ≡ Err (by_cause Memory)) ⊎ (value_answer r ≢ Err (by_cause Memory))) → CallMade strategy old new (OnStreams call) a
  typed_made r a m is none either =
      call_made strategy old new (OnStreams call) a (happened_alike m.happened)
      (λ had.
      let told = m.answered (had_memory (stream_answer call) r a is had) in
      record {
        memory = told.memory;
        logged = told.logged;
        picks = picks_alike strategy (client_of old) new.picked told.picks;
        legal = λ place. legal_alike (client_of old) new.picked (exchanges_of place m.happened.events) (told.legal place);
        answered = λ faults agrees place. is had ∙ answers_alike (client_of old) new.picked faults (exchanges_of place m.happened.events) r (told.answered faults agrees place);
        entries = told.entries;
        flag = told.flag;
      })
      (λ e n. absurd (false≢true n))
      none
      (λ e some. lacks_alike m.happened.events (room_read strategy old new query (value_answer r) m (either e) some))

-- ---- the conversion

-- a reply's conversion is what the reply reads as
pub converted : {M : Type 0} (call : StreamCall) (convert : Tree → Option M) (shown : M → Answer) (tree : Tree) (m : M) → IsReadBy call convert shown → convert tree ≡ Some m → Ok (shown m) ≡ read_by (stream_answer call) (Ok tree)
converted call convert shown tree m reads e = sym (ap or_bad_reply (reads tree ∙ ap (option_map shown) e))

-- so is the refusal of a reply that has none, if memory was not refused
pub unconverted : {M T : Type 0} (meaning : T → M) (call : StreamCall) (convert : Tree → Option M) (shown : M → Answer) (tree : Tree) (e : Unreadable) → IsReadBy call convert shown → Answers {S = T} meaning (convert tree) (Err e)
    → refused_by (unread e) ≢ Err (by_cause Memory) → refused_by (unread e) ≡ read_by (stream_answer call) (Ok tree)
unconverted meaning call convert shown tree (refused text) reads none had = sym (ap or_bad_reply (reads tree ∙ ap (option_map shown) none))
unconverted meaning call convert shown tree no_memory reads none had = absurd (had refl)

-- what the reply reads as is refused where the conversion was
pub reads_unread : {M T : Type 0} (meaning : T → M) (call : StreamCall) (convert : Tree → Option M) (shown : M → Answer) (tree : Tree) (e : Unreadable) → IsReadBy call convert shown → ConvertsTo meaning convert (Ok tree) (Err (unread e))
    → ConvertsTo (λ value. shown (meaning value)) (stream_answer call) (Ok tree) (Err (unread e))
reads_unread meaning call convert shown tree e reads (inl (none, bad)) = inl (reads tree ∙ ap (option_map shown) none, bad)
reads_unread meaning call convert shown tree e reads (inr lacks) = inr lacks

-- a record that is shown in the same way
pub shown_so : {T : Type 0} (strategy : Option Strategy) (old new : World) (call : StreamCall) (f g : T → Answer) (result : Result T Refusal) → ((value : T) → f value ≡ g value) → StreamCallMade strategy old new call f result → StreamCallMade strategy old new call g result
shown_so strategy old new call f g result same m =
    let alike : f ≡ g = λ i value. same value i in
    subst (λ shown. StreamCallMade strategy old new call shown result) alike m

-- ---- the streams of a read

pub stream_keys_by : {K I : Type 0} (key : K → List ℕ) (id : I → List ℕ) (streams : List (K × I)) → stream_keys (streams_by key id streams) ≡ map (λ s. key s.0) streams
stream_keys_by key id streams = map-map _ _ streams

stream_ids_by : {K I : Type 0} (key : K → List ℕ) (id : I → List ℕ) (streams : List (K × I)) → stream_ids (streams_by key id streams) ≡ map (λ s. id s.1) streams
stream_ids_by key id streams = map-map _ _ streams

pub read_sentence_by : {K I : Type 0} (key : K → List ℕ) (id : I → List ℕ) (streams : List (K × I)) (options : ReadSettings) → commands.xread options (map (λ s. key s.0) streams) (map (λ s. id s.1) streams) ≡ sentence (Xread (streams_by key id streams) options)
read_sentence_by key id streams options = rw (stream_keys_by key id streams, stream_ids_by key id streams) refl

-- ---- nothing was sent

-- memory was refused for the command
unwritten : (strategy : Option Strategy) (old new : World) (call : Call) → is_refresh call ≡ false → new ≡ with_log old [] [] → CallMade strategy old new call (Err (by_cause Memory))
unwritten strategy old new call plain e = not_begun strategy old new call (relogged_untouched old new [] e) (ap (λ (w : World). w.picked) e)

reply_unwritten : (strategy : Option Strategy) (old new : World) (call : Call) → new ≡ with_log old [] [] → ReplyMade strategy old new call (Err (by_cause Memory))
reply_unwritten strategy old new call e = reply_not_begun strategy old new call (relogged_untouched old new [] e) (ap (λ (w : World). w.picked) e)

pub nothing_written : {T : Type 0} (strategy : Option Strategy) (old new : World) (call : StreamCall) (shown : T → Answer) → new ≡ with_log old [] [] → StreamCallMade strategy old new call shown (Err (by_cause Memory))
nothing_written strategy old new call shown e = record {
  made = unwritten strategy old new (OnStreams call) refl e;
  read = λ fits sentenced. record { reply = Err (by_cause Memory); made = reply_unwritten strategy old new (query strategy old new call fits sentenced) e; converted = refl };
}

-- a check before all others is not met
refused_first : (strategy : Option Strategy) (old new : World) (call : StreamCall) (refusal : Refusal) → stream_refusal call ≡ Some refusal → new ≡ with_log old [] [] → CallMade strategy old new (OnStreams call) (Err refusal)
refused_first strategy old new call refusal why e =
    let none : call_parts (client_of old) (OnStreams call) ≡ Err refusal = ap (λ o. unless o (task_parts old.settings.read_only old.entries (stream_task call))) why in
    let picked : new.picked ≡ [] = ap (λ (w : World). w.picked) e in
    not_sent strategy old new (OnStreams call) refusal refl (relogged_untouched old new [] e) picked
    (λ m. (plan_unparted strategy (client_of old) (OnStreams call) new.picked refusal none, subst (λ ps. ArePicks strategy (client_of old) (OnStreams call) ps) (sym picked) (picks_unparted strategy (client_of old) (OnStreams call) refusal none)))

pub refused_early : {T : Type 0} (strategy : Option Strategy) (old new : World) (call : StreamCall) (shown : T → Answer) (refusal : Refusal) → stream_refusal call ≡ Some refusal → new ≡ with_log old [] [] → StreamCallMade strategy old new call shown (Err refusal)
refused_early strategy old new call shown refusal why e = record {
  made = refused_first strategy old new call refusal why e;
  read = λ fits sentenced. let none = sym why ∙ fits in cc;
}

-- ---- a read in parts goes out as no one command

pub read_in_parts : {T : Type 0} (strategy : Option Strategy) (old new : World) (streams : List Stream) (options : ReadSettings) (shown : T → Answer) (result : Result T Refusal) → is_by_key options (stream_keys streams) ≡ true
    → CallMade strategy old new (OnStreams (Xread streams options)) (record_answer shown result) → StreamCallMade strategy old new (Xread streams options) shown result
read_in_parts strategy old new streams options shown result parts made = record {
  made = made;
  read = λ fits sentenced. let other = sym (ap (λ b. cond b (read_of options streams) (sentence_task (Xread streams options))) parts) ∙ sentenced in cc;
}
