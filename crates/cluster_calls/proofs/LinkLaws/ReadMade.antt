-- A read in parts, from the run of its parts and the record that is made of their replies.
use Rattle.std.specs.Prelude.{filter}
use Rattle.std.proofs.Common.{◌≡◌, ◌≢◌, false, cond, List, [], ◌∷◌, map, Option, None, option_map, option_and_then, refl, sym, ap, ◌∙◌, subst, Result, Ok, Err}
use Rattle.resp_core.specs.Trees.{Tree}
use Rattle.resp_core.specs.Errors.{Refusal, by_cause}
use Rattle.resp_core.specs.declared.errors.redis_error.Cause.TheVariants.{Memory}
use Rattle.resp_args.specs.Convert.{traverse}
use Rattle.cluster_routing.specs.Address.{Address}
use Rattle.cluster_routing.specs.Choice.{Strategy}
use Rattle.cluster_routing.specs.Policies.{or_bad_reply}
use Rattle.stream_commands.specs.Join.{all_rows, join}
use Rattle.stream_commands.specs.ReadReply.{Row, read_reply}
use Rattle.stream_commands.specs.Settings.{ReadSettings}
use Rattle.cluster_calls.specs.Links.Faults.{LinkFault}
use Rattle.cluster_calls.specs.Links.Happened.{client_of, is_refresh, Answered, Happened, CallMade}
use Rattle.cluster_calls.specs.Links.Log.{Exchange, is_answered, behind_answers}
use Rattle.cluster_calls.specs.Links.PartRuns.{ArePartResults, PartsMade}
use Rattle.cluster_calls.specs.Links.Lacking.{MayLack}
use Rattle.cluster_calls.specs.Links.Run.{with_log}
use Rattle.cluster_calls.specs.Links.World.{World}
use Rattle.cluster_calls.specs.Calls.Answer.{Answer, Read}
use Rattle.cluster_calls.specs.Calls.Call.{Stream, Call}
use Rattle.cluster_calls.specs.Calls.Parts.{Part, result_then, unless}
use Rattle.cluster_calls.specs.Calls.Picks.{ArePicks}
use Rattle.cluster_calls.specs.Calls.Plan.{Client, Dispatch, dispatches, in_order, plan}
use Rattle.cluster_calls.specs.Calls.Reads.{key_places, read_slot, readings, read_rows}
use Rattle.cluster_calls.specs.Calls.Refusals.{part_refusal}
use Rattle.cluster_calls.specs.Calls.Replies.{reply_or_nil}
use Rattle.cluster_calls.specs.Calls.Task.{read_of, task_of, stream_keys, are_of_one_slot}
use Rattle.cluster_calls.proofs.LinkLaws.PlainAnswers.{by_task}
use Rattle.cluster_calls.proofs.LinkLaws.PartedCalls.{parts_answered, parts_happened, parts_room, plans}
use Rattle.cluster_calls.proofs.LinkLaws.Unpicked.{no_parts, parts_unpicked}

-- ---- the record

-- the rows of the parts' replies, joined where they are of several slots
abbrev pub rows_of_parts : ReadSettings → List Stream → List Dispatch → List Tree → Option (List Row)
rows_of_parts options streams ds trees =
    cond (are_of_one_slot (stream_keys streams)) (option_map all_rows (traverse read_reply trees))
    (option_and_then (join (stream_keys streams) (map (λ (d : Dispatch). key_places (read_slot options d.args) streams) ds)) (traverse read_reply trees))

-- The record is made of the parts' replies, or refused where none can be made of them; a part's refusal refuses the call. Memory may be
-- refused when the parts were answered.
abbrev pub IsReadOfParts : ReadSettings → List Stream → List Dispatch → Result (List Tree) Refusal → Result Answer Refusal → Type 0
IsReadOfParts options streams ds (Ok trees) answer = answer ≢ Err (by_cause Memory) → answer ≡ or_bad_reply (option_map Read (rows_of_parts options streams ds trees))
IsReadOfParts options streams ds (Err refusal) answer = answer ≡ Err refusal

readings_are : (xs : List Exchange) → traverse read_reply (map reply_or_nil xs) ≡ readings xs
readings_are [] = refl
readings_are (x ∷ xs) = ap (λ o. option_and_then (λ r. option_map (λ rs. r ∷ rs) o) (read_reply (reply_or_nil x))) (readings_are xs)

module _ (options : ReadSettings) (streams : List Stream) where
  places_of_dispatches : (ds : List Dispatch) → map (λ (d : Dispatch). key_places (read_slot options d.args) streams) ds ≡ map (λ args. key_places (read_slot options args) streams) (map (λ (d : Dispatch). d.args) ds)
  places_of_dispatches [] = refl
  places_of_dispatches (d ∷ ds) = ap (λ q. key_places (read_slot options d.args) streams ∷ q) (places_of_dispatches ds)

  places_of_exchanges : (xs : List Exchange) → map (λ args. key_places (read_slot options args) streams) (map (λ (x : Exchange). x.request.args) xs) ≡ map (λ (x : Exchange). key_places (read_slot options x.request.args) streams) xs
  places_of_exchanges [] = refl
  places_of_exchanges (x ∷ xs) = ap (λ q. key_places (read_slot options x.request.args) streams ∷ q) (places_of_exchanges xs)

  rows_are : (xs : List Exchange) (ds : List Dispatch) (trees : List Tree) → map (λ (x : Exchange). x.request.args) xs ≡ map (λ (d : Dispatch). d.args) ds → map reply_or_nil xs ≡ trees
      → rows_of_parts options streams ds trees ≡ read_rows options streams xs
  rows_are xs ds trees listed are =
      let read : traverse read_reply trees ≡ readings xs = ap (traverse read_reply) (sym are) ∙ readings_are xs in
      let places = places_of_dispatches ds ∙ ap (map (λ args. key_places (read_slot options args) streams)) (sym listed) ∙ places_of_exchanges xs in
      ap (λ o. cond (are_of_one_slot (stream_keys streams)) (option_map all_rows o) (option_and_then (join (stream_keys streams) (map (λ (d : Dispatch). key_places (read_slot options d.args) streams) ds)) o)) read
      ∙ ap (λ ps. cond (are_of_one_slot (stream_keys streams)) (option_map all_rows (readings xs)) (option_and_then (join (stream_keys streams) ps) (readings xs))) places

  told : (client : Client) (faults : Address → LinkFault) (ds : List Dispatch) (xs : List Exchange) (result : Result (List Tree) Refusal) (answer : Result Answer Refusal)
      → ArePartResults client faults ds xs result → IsReadOfParts options streams ds result answer → answer ≢ Err (by_cause Memory)
      → answer ≡ unless (part_refusal client faults (behind_answers xs)) (or_bad_reply (option_map Read (read_rows options streams (filter is_answered xs))))
  told client faults ds xs (Ok trees) answer (none, listed, are) made had =
      made had ∙ ap (λ o. or_bad_reply (option_map Read o)) (rows_are (filter is_answered xs) ds trees listed are)
      ∙ ap (λ ys. unless (part_refusal client faults ys) (or_bad_reply (option_map Read (read_rows options streams (filter is_answered xs))))) (sym none)
  told client faults ds xs (Err refusal) answer is made had =
      made ∙ ap (λ why. unless why (or_bad_reply (option_map Read (read_rows options streams (filter is_answered xs))))) (sym is)

  -- the parts had memory where the call had
  parts_had : (ds : List Dispatch) (result : Result (List Tree) Refusal) (answer : Result Answer Refusal) → IsReadOfParts options streams ds result answer → answer ≢ Err (by_cause Memory) → result ≢ Err (by_cause Memory)
  parts_had ds (Ok trees) answer made had = λ e. cc
  parts_had ds (Err refusal) answer made had = λ e. let same : refusal ≡ by_cause Memory = cc in had (made ∙ ap (λ k. Err k) same)

  -- ---- the call

  module _ (strategy : Option Strategy) (old new : World) (call : Call) (task : task_of call ≡ read_of options streams) (plain : is_refresh call ≡ false) (ds : List Dispatch) (picks : List Address)
      (result : Result (List Tree) Refusal) (answer : Result Answer Refusal) (planned : plan (client_of old) picks call ≡ Ok ds) (picked : ArePicks strategy (client_of old) call picks)
      (m : PartsMade (with_log old [] picks) new ds result) (made : IsReadOfParts options streams ds result answer) where
    abbrev pub happened : Happened strategy old new call
    happened = parts_happened strategy old new call (read_of options streams) task ds picks result planned picked m (λ xs parts. parts) m.single

    -- what is answered, unless memory was refused
    pub read_answered : answer ≢ Err (by_cause Memory) → Answered strategy old new call m.events answer
    read_answered had =
        parts_answered strategy old new call (read_of options streams) task ds picks result planned picked m (λ xs parts. parts) m.single answer plain (by_task call (read_of options streams) task refl) (parts_had ds result answer made had)
        (λ faults xs are. rw (plans strategy old new call (read_of options streams) task ds picks result planned picked m (λ xs parts. parts) m.single, task) (told (client_of old) faults ds xs result answer are made had))

    -- where memory lacked behind the first byte
    pub read_room : answer ≡ Err (by_cause Memory) → new.log ≢ [] → MayLack (client_of old) new.picked call m.events
    read_room lacks =
        parts_room strategy old new call (read_of options streams) task ds picks result planned picked m (λ xs parts. parts) m.single refl
        (λ refusal is. let one : answer ≡ Err refusal = subst (λ r. IsReadOfParts options streams ds r answer) is made in let told = sym one ∙ lacks in cc)

-- ---- a read that was answered without a request shows no picks

pub read_unpicked : (options : ReadSettings) (streams : List Stream) (strategy : Option Strategy) (old new : World) (call : Call) → task_of call ≡ read_of options streams → (a : Answer)
    → CallMade strategy old new call (Ok a) → new.log ≡ [] → new.picked ≡ []
read_unpicked options streams strategy old new call task =
    parts_unpicked strategy old new call (read_of options streams) task refl (λ parts e. by parts (dispatches (client_of old) new.picked parts) refl) (λ ds h. h)
  where
    by : (parts : List Part) (r : Result (List Dispatch) Refusal) → dispatches (client_of old) new.picked parts ≡ r → result_then r (λ ds. Ok (in_order None ds)) ≡ Ok [] → parts ≡ []
    by parts (Err refusal) d k = cc
    by parts (Ok ds) d k =
        let none : ds ≡ [] = cc in
        no_parts (client_of old) new.picked parts (d ∙ ap (λ es. Ok es) none)
