-- A call of one command, from the run of its parts and the reply that is made of theirs.
use Rattle.std.specs.Prelude.{filter}
use Rattle.std.proofs.Common.{◌≡◌, ◌≢◌, ℕ, false, List, [], ◌∷◌, map, length, Option, Some, None, option_and_then, refl, sym, ap, ◌∙◌, subst, Result, Ok, Err}
use Rattle.std.proofs.lemmas.List.{length-map}
use Rattle.resp_core.specs.Trees.{Tree, nil}
use Rattle.resp_core.specs.Errors.{Refusal, by_cause}
use Rattle.resp_core.specs.declared.errors.redis_error.Cause.TheVariants.{Memory}
use Rattle.resp_args.specs.Command.{Command}
use Rattle.resp_args.specs.Packed.{sent}
use Rattle.cluster_routing.specs.Address.{Address}
use Rattle.cluster_routing.specs.Choice.{Strategy}
use Rattle.cluster_routing.specs.Combine.{PartReply}
use Rattle.cluster_routing.specs.Policies.{or_bad_reply}
use Rattle.cluster_calls.specs.Links.Log.{Exchange, is_answered, behind_answers}
use Rattle.cluster_calls.specs.Links.World.{World}
use Rattle.cluster_calls.specs.Links.Faults.{LinkFault}
use Rattle.cluster_calls.specs.Links.Events.{faults_of}
use Rattle.cluster_calls.specs.Links.Happened.{client_of, is_refresh, Answered, Happened}
use Rattle.cluster_calls.specs.Links.Lacking.{MayLack}
use Rattle.cluster_calls.specs.Links.Run.{with_log}
use Rattle.cluster_calls.specs.Links.Converted.{value_answer}
use Rattle.cluster_calls.specs.Links.PartRuns.{ArePartResults, PartsMade, replies_with_slots, IsMadeOfParts}
use Rattle.cluster_calls.specs.Calls.Call.{Call}
use Rattle.cluster_calls.specs.Calls.Task.{one_command, task_of}
use Rattle.cluster_calls.specs.Calls.Parts.{unless}
use Rattle.cluster_calls.specs.Calls.Plan.{Client, Dispatch, plan}
use Rattle.cluster_calls.specs.Calls.Picks.{ArePicks}
use Rattle.cluster_calls.specs.Calls.Replies.{exchange_slot, reply_or_nil, part_replies, reply_of_parts}
use Rattle.cluster_calls.specs.Calls.Refusals.{part_refusal}
use Rattle.cluster_calls.specs.Calls.Answer.{Value, answer_in}
use Rattle.cluster_calls.proofs.LinkLaws.FaultsAgree.{agrees}
use Rattle.cluster_calls.proofs.LinkLaws.PlainAnswers.{by_task}
use Rattle.cluster_calls.proofs.LinkLaws.PartedCalls.{parts_answered, parts_happened, parts_room, plans}

-- ---- the parts' replies

abbrev with_slots : List Exchange → List PartReply
with_slots xs = map (λ x. record { slot = exchange_slot x; tree = reply_or_nil x }) xs

-- exchanges with the arguments of the parts and these trees are the trees with the slots of the parts
slots_are : (xs : List Exchange) (ds : List Dispatch) (trees : List Tree) → map (λ (x : Exchange). x.request.args) xs ≡ map (λ (d : Dispatch). d.args) ds → map reply_or_nil xs ≡ trees → with_slots xs ≡ replies_with_slots ds trees
slots_are [] [] trees e f = refl
slots_are [] (d ∷ ds) trees e f = cc
slots_are (x ∷ xs) [] trees e f = cc
slots_are (x ∷ xs) (d ∷ ds) [] e f = cc
slots_are (x ∷ xs) (d ∷ ds) (tree ∷ trees) e f =
    let args : x.request.args ≡ d.args = cc in
    let reply : reply_or_nil x ≡ tree = cc in
    let later : map (λ (x : Exchange). x.request.args) xs ≡ map (λ (d : Dispatch). d.args) ds = cc in
    let more : map reply_or_nil xs ≡ trees = cc in
    rw (args, reply, slots_are xs ds trees later more) refl

-- ---- the answer

abbrev as_one : Result (List Tree) Refusal → Result Tree Refusal
as_one (Ok trees) = Ok nil
as_one (Err refusal) = Err refusal

-- the parts had memory where the call had
parts_had : (args : List (List ℕ)) (ds : List Dispatch) (result : Result (List Tree) Refusal) (reply : Result Tree Refusal) → IsMadeOfParts args ds result reply → reply ≢ Err (by_cause Memory) → result ≢ Err (by_cause Memory)
parts_had args ds (Ok trees) reply made had = λ e. cc
parts_had args ds (Err refusal) reply made had = λ e. had (made ∙ ap as_one e)

value_of : (call : Call) → ((tree : Tree) → answer_in call tree ≡ Some (Value tree)) → (o : Option Tree) → value_answer (or_bad_reply o) ≡ or_bad_reply (option_and_then (answer_in call) o)
value_of call value None = refl
value_of call value (Some tree) = ap or_bad_reply (sym (value tree))

told : (call : Call) → ((tree : Tree) → answer_in call tree ≡ Some (Value tree)) → (args : List (List ℕ)) (client : Client) (faults : Address → LinkFault) (ds : List Dispatch) (xs : List Exchange) (result : Result (List Tree) Refusal) (reply : Result Tree Refusal)
    → ArePartResults client faults ds xs result → IsMadeOfParts args ds result reply → reply ≢ Err (by_cause Memory)
    → value_answer reply ≡ unless (part_refusal client faults (behind_answers xs)) (or_bad_reply (option_and_then (answer_in call) (reply_of_parts args (part_replies xs))))
told call value args client faults ds xs (Ok trees) reply (none, listed, are) made had =
    let whole = or_bad_reply (option_and_then (answer_in call) (reply_of_parts args (part_replies xs))) in
    ap value_answer (made had) ∙ value_of call value (reply_of_parts args (replies_with_slots ds trees))
    ∙ ap (λ rs. or_bad_reply (option_and_then (answer_in call) (reply_of_parts args rs))) (sym (slots_are (filter is_answered xs) ds trees listed are))
    ∙ ap (λ ys. unless (part_refusal client faults ys) whole) (sym none)
told call value args client faults ds xs (Err refusal) reply is made had =
    let whole = or_bad_reply (option_and_then (answer_in call) (reply_of_parts args (part_replies xs))) in
    ap value_answer made ∙ ap (λ why. unless why whole) (sym is)

-- ---- as many replies as parts

pub as_many_replies : (old new : World) (ds : List Dispatch) (trees : List Tree) → PartsMade old new ds (Ok trees) → length trees ≡ length ds
as_many_replies old new ds trees m =
    let told = (m.answered (λ e. cc)).tells (faults_of m.events) (agrees old.nodes new.nodes m.events m.runs) 0 in
    ap length (sym told.2) ∙ length-map _ _ ∙ sym (length-map _ _) ∙ ap length told.1 ∙ length-map _ _

-- ---- the call

module _ (strategy : Option Strategy) (old new : World) (call : Call) (command : Command) (number : ℕ) (order : Option (List ℕ)) (task : task_of call ≡ one_command command number order)
    (value : (tree : Tree) → answer_in call tree ≡ Some (Value tree)) (plain : is_refresh call ≡ false) (ds : List Dispatch) (picks : List Address) (result : Result (List Tree) Refusal) (reply : Result Tree Refusal)
    (planned : plan (client_of old) picks call ≡ Ok ds) (picked : ArePicks strategy (client_of old) call picks)
    (m : PartsMade (with_log old [] picks) new ds result) (made : IsMadeOfParts (sent command) ds result reply) where
  abbrev pub happened : Happened strategy old new call
  happened = parts_happened strategy old new call (one_command command number order) task ds picks result planned picked m (λ xs parts. parts) m.single

  -- what is answered, unless memory was refused
  pub many_answered : value_answer reply ≢ Err (by_cause Memory) → Answered strategy old new call m.events (value_answer reply)
  many_answered had =
      let there : reply ≢ Err (by_cause Memory) = λ e. had (ap value_answer e) in
      parts_answered strategy old new call (one_command command number order) task ds picks result planned picked m (λ xs parts. parts) m.single (value_answer reply) plain (by_task call (one_command command number order) task refl) (parts_had (sent command) ds result reply made there)
      (λ faults xs are. rw (plans strategy old new call (one_command command number order) task ds picks result planned picked m (λ xs parts. parts) m.single, task) (told call value (sent command) (client_of old) faults ds xs result reply are made there))

  -- where memory lacked behind the first byte
  pub many_room : value_answer reply ≡ Err (by_cause Memory) → new.log ≢ [] → MayLack (client_of old) new.picked call m.events
  many_room lacks =
      parts_room strategy old new call (one_command command number order) task ds picks result planned picked m (λ xs parts. parts) m.single refl
      (λ refusal is. let one : reply ≡ Err refusal = subst (λ r. IsMadeOfParts (sent command) ds r reply) is made in let told = sym (ap value_answer one) ∙ lacks in cc)
