-- A call that has ended is made when its picks are forgotten, where memory was refused before a request was written down.
use Rattle.std.specs.Prelude.{◌⊎◌, ◌&&◌, ◌||◌, filter, not}
use Rattle.std.specs.List.{list_any}
use Rattle.std.proofs.Common.{arith, cond, ◌≡◌, ◌≢◌, ◌<◌, ℕ, Bool, true, false, inl, inr, length, List, [], ◌∷◌, Option, Some, None, refl, sym, ap, ◌∙◌, subst, Result, Ok, Err}
use Rattle.std.proofs.lemmas.Bool.{false≢true}
use Rattle.resp_core.specs.Errors.{Refusal, by_cause, by_server, at_position, by_servers, kind_by, kind_of, named_kind, server_kind}
use Rattle.resp_core.specs.View.{view}
use Rattle.resp_core.specs.declared.value.Value.{Value as CodeValue}
use Rattle.resp_core.specs.declared.errors.redis_error.Cause.{Cause}
use Rattle.resp_core.specs.declared.errors.redis_error.Cause.TheVariants as causes
use Rattle.resp_core.specs.declared.errors.redis_error.Cause.TheVariants.{Memory}
use Rattle.resp_core.specs.declared.errors.redis_error.ErrorKind.TheVariants as kinds
use Rattle.resp_core.specs.declared.errors.server_error.ServerErrorKind.{ServerErrorKind}
use Rattle.cluster_routing.specs.Choice.{Strategy}
use Rattle.cluster_routing.specs.Split.{has_split_word}
use Rattle.cluster_calls.specs.Calls.Answer.{Answer, Value, answer_in, IsAnswerOf}
use Rattle.cluster_calls.specs.Calls.Call.{Call}
use Rattle.cluster_calls.specs.Calls.OneReply.{has_reply}
use Rattle.cluster_calls.specs.Calls.Picks.{ArePicks}
use Rattle.cluster_calls.specs.Calls.Plan.{Client, Dispatch, plan}
use Rattle.cluster_calls.specs.Calls.Task.{one_command, task_of}
use Rattle.cluster_calls.specs.Links.PartRuns.{IsMadeOfParts, PartsMade}
use Rattle.cluster_steps.specs.Dispatches.{IsPlanned}
use Rattle.resp_args.specs.Command.{Command}
use Rattle.resp_args.specs.Packed.{sent}
use Rattle.cluster_routing.specs.Address.{Address}
use Rattle.resp_core.specs.Trees.{Tree}
use Rattle.cluster_calls.proofs.LinkLaws.ManyParts as parts
use Rattle.cluster_calls.specs.Links.Converted.{ReplyMade, value_answer}
use Rattle.cluster_calls.specs.Calls.Legal.{IsLegalCall}
use Rattle.cluster_calls.specs.Links.Events.{Event, Runs, exchanges_of}
use Rattle.cluster_calls.specs.Links.Happened.{BeginsLegal, CallMade, Happened, LacksLate, client_of, is_refresh}
use Rattle.cluster_calls.specs.Links.Lacking.{MayLack}
use Rattle.cluster_calls.specs.Links.Run.{with_log}
use Rattle.cluster_calls.specs.Links.Typed.{record_answer}
use Rattle.cluster_calls.specs.Links.Log.{Exchange, is_answered}
use Rattle.cluster_calls.specs.Links.World.{World, one_reply, tree_result}
use Rattle.cluster_calls.proofs.LinkLaws.LackingLists.{value_lacked}
use Rattle.cluster_calls.proofs.LinkLaws.OneCommand.{Untouched, no_reply, nothing_happened, refused_by, unsent_answered}
use Rattle.cluster_calls.proofs.LinkLaws.Played.{call_made}
use Rattle.cluster_client.specs.Ended.{CommandEnded}

-- ---- want of memory, by its kind

memory_by : (cause : Cause) → kind_by cause ≡ kinds.Memory → cause ≡ causes.Memory
memory_by causes.Memory e = refl
memory_by causes.UnreadableAddress e = cc
memory_by causes.RepeatedAddress e = cc
memory_by causes.SettingOutOfRange e = cc
memory_by causes.NoResponse e = cc
memory_by causes.NoRoute e = cc
memory_by causes.CursorInSplit e = cc
memory_by causes.BrokenTuples e = cc
memory_by causes.BadOrder e = cc
memory_by causes.NoNode e = cc
memory_by causes.NoLink e = cc
memory_by causes.NoKeys e = cc
memory_by causes.SeveralSlots e = cc
memory_by causes.BadGroupName e = cc
memory_by causes.Io e = cc
memory_by causes.Parse e = cc
memory_by causes.UnexpectedReturnType e = cc
memory_by causes.ClaimsIdsAlone e = cc
memory_by causes.LevelsOutOfRange e = cc
memory_by causes.NotAsked e = cc

no_server_kind : (o : Option ServerErrorKind) (e : Refusal) → named_kind o ≡ kinds.Memory → e ≡ by_cause causes.Memory
no_server_kind (Some kind) e k = cc
no_server_kind None e k = cc

pub memory_kind : (e : Refusal) → kind_of e ≡ kinds.Memory → e ≡ by_cause causes.Memory
memory_kind (by_cause cause) k = ap by_cause (memory_by cause k)
memory_kind (by_server error) k = no_server_kind (server_kind error.code) (by_server error) k
memory_kind (at_position position) k = cc
memory_kind (by_servers first more) k = no_server_kind (server_kind first.1.code) (by_servers first more) k

-- ---- where memory lacked, of a call whose answer is read otherwise

pub room_read : (strategy : Option Strategy) (old new : World) (call : Call) (answer : Result Answer Refusal) (m : CallMade strategy old new call answer) → (answer ≡ Err (by_cause Memory)) ⊎ (answer ≢ Err (by_cause Memory)) → new.log ≢ []
    → MayLack (client_of old) new.picked call m.happened.events
room_read strategy old new call answer m (inl lacks) some = m.room lacks some
room_read strategy old new call answer m (inr had) some = inr (inr (m.answered had).legal)

-- the call's own refusal was for want of memory, or that of the reply's conversion
pub lacks_late : {strategy : Option Strategy} {old new : World} {call : Call} {answer : Result Answer Refusal} → CallMade strategy old new call answer → (answer ≡ Err (by_cause Memory)) ⊎ (answer ≢ Err (by_cause Memory)) → new.log ≢ []
    → LacksLate strategy old new call
lacks_late {strategy} {old} {new} {call} {answer} m either some = (m.happened, room_read strategy old new call answer m either some)

-- ---- nothing was sent

pub unsent_ended : (strategy : Option Strategy) (old new : World) (call : Call) (refusal : Refusal) → is_refresh call ≡ false → Untouched old new
    → (refused_by refusal ≢ Err (by_cause Memory) → (plan (client_of old) new.picked call ≡ Err refusal) × ArePicks strategy (client_of old) call new.picked) → CommandEnded strategy old new call (Err refusal)
unsent_ended strategy old new call refusal n u why = record { happened = nothing_happened strategy old new call u; answered = unsent_answered strategy old new call refusal n u why; room = λ e some. absurd (some u.log); missing = λ e place. no_reply (task_of call) }

-- a plan by no picks, where the picks are none
pub planned_with : (strategy : Option Strategy) (client : Client) (call : Call) (refusal : Refusal) (picks none : List Address) → picks ≡ none → IsPlanned strategy client call none (Err refusal) → (plan client picks call ≡ Err refusal) × ArePicks strategy client call picks
planned_with strategy client call refusal picks none same p = (
  subst (λ ps. plan client ps call ≡ Err refusal) (sym same) p.planned,
  subst (λ ps. ArePicks strategy client call ps) (sym same) p.picked,
)

-- ---- whether the one reply is there

module _ (call : Call) (command : Command) (number : ℕ) (order : Option (List ℕ)) (task : task_of call ≡ one_command command number order) where
  -- a command whose word is split has no one reply
  pub split_missing : has_split_word command.args ≡ true → (xs : List Exchange) → has_reply (task_of call) xs ≡ false
  split_missing word xs = ap (λ t. has_reply t xs) task ∙ ap (λ b. not b && list_any is_answered xs) word

  none_of : (b c : Bool) → c ≡ false → (b && c) ≡ false
  none_of true c e = e
  none_of false c e = refl

  -- with fewer answers than one there is none
  fewer_than_one : (xs : List Exchange) → length (filter is_answered xs) < 1 → list_any is_answered xs ≡ false
  fewer_than_one [] h = refl
  fewer_than_one (x ∷ xs) h = by (is_answered x) h (λ k. fewer_than_one xs k)
    where
      by : (b : Bool) → length (cond b (x ∷ filter is_answered xs) (filter is_answered xs)) < 1 → (length (filter is_answered xs) < 1 → list_any is_answered xs ≡ false) → (b || list_any is_answered xs) ≡ false
      by true k more = absurd (omega (arith, k))
      by false k more = more k

  -- the one part of a command that goes whole is not answered where memory was refused
  pub whole_missing : (old new : World) (d : Dispatch) (reply : Result Tree Refusal) (m : PartsMade old new (d ∷ []) (one_reply reply)) → reply ≡ Err (by_cause Memory) → (place : ℕ) → has_reply (task_of call) (exchanges_of place m.events) ≡ false
  whole_missing old new d reply m lacks place = ap (λ t. has_reply t (exchanges_of place m.events)) task ∙ none_of (not (has_split_word command.args)) _ (by m.events refl)
    where
      by : (xs : List Event) → m.events ≡ xs → list_any is_answered (exchanges_of place m.events) ≡ false
      by [] is = ap (λ es. list_any is_answered (exchanges_of place es)) is
      by (x ∷ xs) is = fewer_than_one (exchanges_of place m.events) (m.unanswered (ap one_reply lacks) (λ none. let bad = sym is ∙ none in cc) place)

-- ---- its parts were sent

module _ (strategy : Option Strategy) (old new : World) (call : Call) (command : Command) (number : ℕ) (order : Option (List ℕ)) (task : task_of call ≡ one_command command number order)
    (value : (tree : Tree) → answer_in call tree ≡ Some (Value tree)) (plain : is_refresh call ≡ false) (ds : List Dispatch) (picks : List Address) (result : Result (List Tree) Refusal) (reply : Result Tree Refusal)
    (planned : plan (client_of old) picks call ≡ Ok ds) (picked : ArePicks strategy (client_of old) call picks)
    (m : PartsMade (with_log old [] picks) new ds result) (made : IsMadeOfParts (sent command) ds result reply)
    (missing : reply ≡ Err (by_cause Memory) → (place : ℕ) → has_reply (task_of call) (exchanges_of place m.events) ≡ false) where
  pub command_ended : CommandEnded strategy old new call (value_answer reply)
  command_ended = record {
    happened = parts.happened strategy old new call command number order task value plain ds picks result reply planned picked m made;
    answered = parts.many_answered strategy old new call command number order task value plain ds picks result reply planned picked m made;
    room = parts.many_room strategy old new call command number order task value plain ds picks result reply planned picked m made;
    missing = λ lacks. missing (value_lacked reply lacks);
  }

-- ---- the picks are forgotten

value_memory : (r : Result CodeValue Refusal) → value_answer (tree_result view r) ≡ Err (by_cause Memory) → r ≡ Err (by_cause Memory)
value_memory (Ok value) e = cc
value_memory (Err refusal) e = let same : refusal ≡ by_cause Memory = cc in ap (λ k. Err k) same

record_memory : {T : Type 0} (shown : T → Answer) (r : Result T Refusal) → record_answer shown r ≡ Err (by_cause Memory) → r ≡ Err (by_cause Memory)
record_memory shown (Ok value) e = cc
record_memory shown (Err refusal) e = let same : refusal ≡ by_cause Memory = cc in ap (λ k. Err k) same

memory_record : {T : Type 0} (shown : T → Answer) (r : Result T Refusal) → r ≡ Err (by_cause Memory) → record_answer shown r ≡ Err (by_cause Memory)
memory_record shown r e = ap (record_answer shown) e

memory_value : (r : Result CodeValue Refusal) → r ≡ Err (by_cause Memory) → value_answer (tree_result view r) ≡ Err (by_cause Memory)
memory_value r e = ap (λ k. value_answer (tree_result view k)) e

-- the answer shows the result, and lacks memory exactly where the result does
module _ {T : Type 0} (r : Result T Refusal) (answer : Result Answer Refusal) (told : answer ≡ Err (by_cause Memory) → r ≡ Err (by_cause Memory)) (tells : r ≡ Err (by_cause Memory) → answer ≡ Err (by_cause Memory))
    (strategy : Option Strategy) (old mid new : World) (call : Call) (plain : is_refresh call ≡ false) (m : CommandEnded strategy old mid call answer)
    (stays : new ≡ with_log mid mid.log new.picked) (forgotten : r ≡ Err (by_cause Memory) → mid.log ≡ [] → new.picked ≡ []) (kept : (r ≡ Err (by_cause Memory) → mid.log ≢ []) → new.picked ≡ mid.picked) where
  same_log : new.log ≡ mid.log
  same_log = ap (λ (w : World). w.log) stays

  kept_sent : new.log ≢ [] → new.picked ≡ mid.picked
  kept_sent some = kept (λ e none. some (same_log ∙ none))

  abbrev happened : Happened strategy old new call
  happened = record {
    events = m.happened.events;
    runs = subst (λ ns. Runs old.nodes ns m.happened.events) (sym (ap (λ (w : World). w.nodes) stays)) m.happened.runs;
    stops = m.happened.stops;
    logged = same_log ∙ m.happened.logged;
    calls = m.happened.calls;
    picks = λ some. subst (λ ps. ArePicks strategy (client_of old) call ps) (sym (kept_sent some)) (m.happened.picks (λ none. some (same_log ∙ none)));
    begins = λ some place. subst (λ ps. BeginsLegal (client_of old) ps call (exchanges_of place m.happened.events)) (sym (kept_sent some)) (m.happened.begins (λ none. some (same_log ∙ none)) place);
    settings = ap (λ (w : World). w.settings) stays ∙ m.happened.settings;
    map_stays = λ n. ap (λ (w : World). w.entries) stays ∙ m.happened.map_stays n;
    flag = λ n. ap (λ (w : World). w.needs_refresh) stays ∙ m.happened.flag n;
  }

  unpicked_by : CallMade strategy old new call answer
  unpicked_by =
      call_made strategy old new call answer happened
      (λ had.
      let a = m.answered had in
      let same = kept (λ e none. had (tells e)) in
      record {
        memory = a.memory;
        logged = same_log ∙ a.logged;
        picks = subst (λ ps. ArePicks strategy (client_of old) call ps) (sym same) a.picks;
        legal = λ place. subst (λ ps. IsLegalCall (client_of old) ps call (exchanges_of place m.happened.events)) (sym same) (a.legal place);
        answered = λ faults agrees place. subst (λ ps. IsAnswerOf (client_of old) ps faults call (exchanges_of place m.happened.events) answer) (sym same) (a.answered faults agrees place);
        entries = λ place. ap (λ (w : World). w.entries) stays ∙ a.entries place;
        flag = λ place. ap (λ (w : World). w.needs_refresh) stays ∙ a.flag place;
      })
      (λ e n. absurd (false≢true (sym plain ∙ n)))
      (λ e none. forgotten (told e) (sym same_log ∙ none))
      (λ e some. subst (λ ps. MayLack (client_of old) ps call m.happened.events) (sym (kept_sent some)) (m.room e (λ none. some (same_log ∙ none))))

module _ (strategy : Option Strategy) (old mid new : World) (call : Call) where
  pub unpicked_made : (r : Result CodeValue Refusal) → is_refresh call ≡ false → CommandEnded strategy old mid call (value_answer (tree_result view r))
      → new ≡ with_log mid mid.log new.picked → (r ≡ Err (by_cause Memory) → mid.log ≡ [] → new.picked ≡ []) → ((r ≡ Err (by_cause Memory) → mid.log ≢ []) → new.picked ≡ mid.picked)
      → ReplyMade strategy old new call (tree_result view r)
  unfolding unpicked_by call_made
  unpicked_made r plain m stays forgotten kept = record {
    made = unpicked_by r (value_answer (tree_result view r)) (value_memory r) (memory_value r) strategy old mid new call plain m stays forgotten kept;
    missing = λ lacks. m.missing (ap value_answer lacks);
  }

  pub record_unpicked : {T : Type 0} (shown : T → Answer) (r : Result T Refusal) → is_refresh call ≡ false → CommandEnded strategy old mid call (record_answer shown r)
      → new ≡ with_log mid mid.log new.picked → (r ≡ Err (by_cause Memory) → mid.log ≡ [] → new.picked ≡ []) → ((r ≡ Err (by_cause Memory) → mid.log ≢ []) → new.picked ≡ mid.picked)
      → CallMade strategy old new call (record_answer shown r)
  record_unpicked shown r plain m stays forgotten kept =
      unpicked_by r (record_answer shown r) (record_memory shown r) (memory_record shown r) strategy old mid new call plain m stays forgotten kept
