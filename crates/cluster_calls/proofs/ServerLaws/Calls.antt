-- Each call of one command is as good as the command on one server.
use Rattle.std.proofs.Common.{◌≡◌, ℕ, Bool, true, false, cond, nat_eq, List, [], ◌∷◌, filter, length, Option, Some, None, Result, Ok, Err, refl, sym, ap, ◌∙◌, subst, MatchResult}
use Rattle.std.specs.Prelude.{option_and_then}
use Rattle.resp_core.specs.Trees.{Tree}
use Rattle.resp_core.specs.Errors.{Refusal, by_cause}
use Rattle.resp_core.specs.declared.errors.redis_error.Cause.TheVariants.{BadOrder}
use Rattle.resp_args.specs.Command.{Command}
use Rattle.resp_args.specs.Packed.{sent}
use Rattle.cluster_routing.specs.Address.{Address}
use Rattle.cluster_routing.specs.Lists.{Pairwise, among, is_permutation}
use Rattle.cluster_routing.specs.Parts.{tuple_slot}
use Rattle.cluster_routing.specs.Policies.{bad_reply, or_bad_reply}
use Rattle.cluster_routing.specs.Split.{Split, split_of}
use Rattle.cluster_calls.specs.Links.Log.{Exchange, behind_answers}
use Rattle.cluster_calls.specs.Calls.Call.{Call}
use Rattle.cluster_calls.specs.Calls.Task.{Task, one_command, task_of, early_refusal}
use Rattle.cluster_calls.specs.Calls.Parts.{Part, result_then, parts_of, fits_order, if_ordered, unless}
use Rattle.cluster_calls.specs.Calls.Plan.{Client, Dispatch, dispatches, in_order, order_of, plan}
use Rattle.cluster_calls.specs.Calls.Legal.{PartByPart, AreMade, IsLegalCall}
use Rattle.cluster_calls.specs.Links.Faults.{LinkFault}
use Rattle.cluster_calls.specs.Calls.Replies.{part_replies, reply_of_parts}
use Rattle.cluster_calls.specs.Calls.Refusals.{part_refusal, sent_refusal}
use Rattle.cluster_calls.specs.Calls.Answer.{Answer, answer_in, task_answer, answer_of}
use Rattle.cluster_calls.specs.OneServer.Keyspace.{Step}
use Rattle.cluster_calls.specs.OneServer.Meaning.{Meaning}
use Rattle.cluster_calls.specs.OneServer.Honest.{is_counted}
use Rattle.cluster_calls.specs.OneServer.Commands.{task_done, kept_of, kept_by, split_with, task_kept, counting, IsAnswerBy, IsTaskAnswer}
use Rattle.cluster_calls.specs.OneServer.Operations.{Operation, RunCommand, Response, Reply, run_each}
use Rattle.cluster_calls.specs.Calls.TaskParts.{task_parts}
use Rattle.cluster_calls.proofs.ServerLaws.Draw.{pairwise-nil}
use Rattle.cluster_calls.proofs.ServerLaws.Grouping.{pairwise-length}
use Rattle.cluster_calls.proofs.ServerLaws.Pieces.{SamePieces, AccountsAs, HonestIn, ServedIn}
use Rattle.cluster_calls.proofs.LogLaws.Plans.{IsFor, dispatches_for, sends_parts, role, split_parts_are, whole_part_is}
use Rattle.cluster_calls.proofs.ServerLaws.Orders.{sends_ordered}
use Rattle.cluster_calls.proofs.ServerLaws.PartCall.{Sends, command_kept, command_told}

-- a call is served by one server, by the same steps on each slot as its requests made
pub record CallServed (meaning : Meaning) (done : ℕ → Bool) (call : Call) (answer : Result Answer Refusal) (xs : List Exchange) (moves : List (List Step)) : Type 0 where
  pub responses : List Response
  pub served : ServedIn meaning (counting done call answer xs) responses moves
  pub answer_is : IsAnswerBy done call xs answer responses

-- ---- a call by its plan

module _ (client : Client) (faults : Address → LinkFault) (meaning : Meaning) (moves : List (List Step)) (done : ℕ → Bool) (picks : List Address) (call : Call) (task : Task) (is : task_of call ≡ task) (xs : List Exchange) where
  abbrev answer_at : Task → Result Answer Refusal
  answer_at t = unless (sent_refusal client faults t xs) (or_bad_reply (task_answer faults call t xs))

  pub served_by : ((ds : List Dispatch) → plan client picks call ≡ Ok ds → AreMade client task ds xs → CallServed meaning done call (answer_at task) xs moves) → ((r : Refusal) → xs ≡ [] → CallServed meaning done call (Err r) xs moves)
      → IsLegalCall client picks call xs → CallServed meaning done call (answer_of client picks faults call xs) xs moves
  served_by sent unsent legal = by (plan client picks call) refl legal
    where
      by : (o : Result (List Dispatch) Refusal) → plan client picks call ≡ o → MatchResult o (λ ds. AreMade client (task_of call) ds xs) (λ refusal. xs ≡ [])
          → CallServed meaning done call (result_then o (λ ds. answer_at (task_of call))) xs moves
      by (Ok ds) p l = subst (λ t. CallServed meaning done call (answer_at t) xs moves) (sym is) (sent ds p (subst (λ t. AreMade client t ds xs) is l))
      by (Err r) p l = unsent r l

-- no exchange, no change
pub nothing_done : (meaning : Meaning) (moves : List (List Step)) (done : ℕ → Bool) (operation : List (List ℕ) → Operation) → HonestIn meaning done operation [] moves → SamePieces [] moves
nothing_done meaning moves done operation h = subst (λ q. SamePieces q moves) (pairwise-nil (AccountsAs meaning done operation) h.0 h.1) h.2

filter_none : (split : Split) → filter (λ t. among nat_eq (tuple_slot t) []) split.tuples ≡ []
filter_none split = by split.tuples
  where
    by : (ts : List (List (List ℕ))) → filter (λ t. among nat_eq (tuple_slot t) []) ts ≡ []
    by [] = refl
    by (t ∷ ts) = by ts

pub kept_none : (args : List (List ℕ)) → kept_of args [] ≡ []
kept_none args = by (split_of args)
  where
    by : (o : Option Split) → kept_by args o [] ≡ []
    by None = refl
    by (Some split) = ap (split_with split) (filter_none split)

-- ---- the dispatches of a command are its parts or itself

dispatches_send : (client : Client) (picks : List Address) (command : Command) (number : ℕ) (parts : List Part) (ds : List Dispatch) → parts_of client.settings.read_only command number ≡ Ok parts
    → dispatches client picks parts ≡ Ok ds → Sends (sent command) ds (split_of (sent command))
dispatches_send client picks command number parts ds p d = at_split (split_of (sent command)) refl
  where
    one : (part : Part) (es : List Dispatch) → part.args ≡ sent command → Pairwise IsFor (part ∷ []) es → (e : Dispatch) × (es ≡ e ∷ []) × (e.args ≡ sent command)
    one part [] a h = absurd h
    one part (e ∷ []) a h = (e, refl, h.0 ∙ a)
    one part (e ∷ e2 ∷ es) a h = absurd h.1

    at_split : (o : Option Split) → split_of (sent command) ≡ o → Sends (sent command) ds o
    at_split None s =
        let w = whole_part_is client.settings.read_only command number parts s p in
        one w.0 ds w.2 (subst (λ q. Pairwise IsFor q ds) w.1 (dispatches_for client parts picks ds d))
    at_split (Some split) s =
        sends_parts (sent command) split s (role client.settings.read_only command number parts) ds
        (subst (λ q. Pairwise IsFor q ds) (split_parts_are client.settings.read_only command number parts split s p) (dispatches_for client parts picks ds d))

-- also in another order
ordered_send : (client : Client) (picks : List Address) (command : Command) (number : ℕ) (order : Option (List ℕ)) (parts : List Part) (ds : List Dispatch)
    → parts_of client.settings.read_only command number ≡ Ok parts → fits_order order (length parts) ≡ true → dispatches client picks parts ≡ Ok ds → Sends (sent command) (in_order order ds) (split_of (sent command))
ordered_send client picks command number None parts ds p f d = dispatches_send client picks command number parts ds p d
ordered_send client picks command number (Some order) parts ds p f d =
    sends_ordered (sent command) ds order (split_of (sent command)) (subst (λ m. is_permutation m order ≡ true) (pairwise-length IsFor parts ds (dispatches_for client parts picks ds d)) f)
    (dispatches_send client picks command number parts ds p d)

-- the plan of a call of one command sends it
pub plan_sends : (client : Client) (picks : List Address) (call : Call) (command : Command) (number : ℕ) (order : Option (List ℕ)) (ds : List Dispatch)
    → task_of call ≡ one_command command number order → plan client picks call ≡ Ok ds → Sends (sent command) ds (split_of (sent command))
plan_sends client picks call command number order ds t e = at_early (early_refusal call) (subst at_task t e)
  where
    at_task : Task → Type 0
    at_task task = result_then (unless (early_refusal call) (task_parts client.settings.read_only client.entries task)) (λ parts. result_then (dispatches client picks parts) (λ es. Ok (in_order (order_of task) es))) ≡ Ok ds

    sent_by : (parts : List Part) → parts_of client.settings.read_only command number ≡ Ok parts → fits_order order (length parts) ≡ true → (o : Result (List Dispatch) Refusal) → dispatches client picks parts ≡ o
        → result_then o (λ es. Ok (in_order order es)) ≡ Ok ds → Sends (sent command) ds (split_of (sent command))
    sent_by parts p f (Err r) d g = cc
    sent_by parts p f (Ok es) d g =
        let same : in_order order es ≡ ds = cc in
        subst (λ q. Sends (sent command) q (split_of (sent command))) same (ordered_send client picks command number order parts es p f d)

    at_fit : (parts : List Part) → parts_of client.settings.read_only command number ≡ Ok parts → (b : Bool) → fits_order order (length parts) ≡ b
        → result_then (cond b (Ok parts) (Err (by_cause BadOrder))) (λ ps. result_then (dispatches client picks ps) (λ es. Ok (in_order order es))) ≡ Ok ds → Sends (sent command) ds (split_of (sent command))
    at_fit parts p true f g = sent_by parts p f (dispatches client picks parts) refl g
    at_fit parts p false f g = cc

    at_parts : (o : Result (List Part) Refusal) → parts_of client.settings.read_only command number ≡ o
        → result_then (result_then o (if_ordered order)) (λ ps. result_then (dispatches client picks ps) (λ es. Ok (in_order order es))) ≡ Ok ds → Sends (sent command) ds (split_of (sent command))
    at_parts (Ok parts) p g = at_fit parts p (fits_order order (length parts)) refl g
    at_parts (Err r) p g = cc

    at_early : (o : Option Refusal) → result_then (unless o (task_parts client.settings.read_only client.entries (one_command command number order))) (λ parts. result_then (dispatches client picks parts) (λ es. Ok (in_order order es))) ≡ Ok ds
        → Sends (sent command) ds (split_of (sent command))
    at_early None g = at_parts (parts_of client.settings.read_only command number) refl g
    at_early (Some r) g = cc

-- ---- served

module _ (client : Client) (faults : Address → LinkFault) (meaning : Meaning) (moves : List (List Step)) (done : ℕ → Bool) (picks : List Address) (call : Call) (command : Command) (number : ℕ) (order : Option (List ℕ))
    (is_command : task_of call ≡ one_command command number order) (xs : List Exchange) (honest : HonestIn meaning done RunCommand xs moves) where
  -- a refused call keeps what was counted
  refused : (r : Refusal) → (responses : List Response) × ServedIn meaning (run_each (kept_of (sent command) (filter (is_counted done) xs))) responses moves → CallServed meaning done call (Err r) xs moves
  refused r k = record { responses = k.0; served = subst (λ t. ServedIn meaning (task_kept done t xs) k.0 moves) (sym is_command) k.1; answer_is = tt }

  unsent : xs ≡ [] → (responses : List Response) × ServedIn meaning (run_each (kept_of (sent command) (filter (is_counted done) xs))) responses moves
  unsent e =
      let h = subst (λ q. HonestIn meaning done RunCommand q moves) e honest in
      ([], subst (λ q. ServedIn meaning q [] moves) (ap run_each (sym (kept_none (sent command)) ∙ ap (λ q. kept_of (sent command) (filter (is_counted done) q)) (sym e))) ([], tt, nothing_done meaning moves done RunCommand h))

  module _ (ds : List Dispatch) (sends : Sends (sent command) ds (split_of (sent command))) (legal : PartByPart client ds xs) where
    kept_here : (responses : List Response) × ServedIn meaning (run_each (kept_of (sent command) (filter (is_counted done) xs))) responses moves
    kept_here = command_kept meaning done (sent command) moves client ds xs sends legal honest

    -- an answered call has its one reply from the server
    answered : part_refusal client faults (behind_answers xs) ≡ None → (tree : Tree) → reply_of_parts (sent command) (part_replies xs) ≡ Some tree → (answer : Answer) → answer_in call tree ≡ Some answer → CallServed meaning done call (Ok answer) xs moves
    answered fine tree made answer e = record {
      responses = Reply tree ∷ [];
      served = subst (λ t. ServedIn meaning (task_done done t xs) (Reply tree ∷ []) moves) (sym is_command) (command_told meaning done (sent command) moves client faults ds xs sends legal honest fine tree made);
      answer_is = subst (λ t. IsTaskAnswer done call t xs answer (Reply tree ∷ [])) (sym is_command) (tree, refl, e);
    }

    by_answer : part_refusal client faults (behind_answers xs) ≡ None → (tree : Tree) → reply_of_parts (sent command) (part_replies xs) ≡ Some tree → (o : Option Answer) → answer_in call tree ≡ o → CallServed meaning done call (or_bad_reply o) xs moves
    by_answer fine tree made None e = refused bad_reply kept_here
    by_answer fine tree made (Some answer) e = answered fine tree made answer e

    by_reply : part_refusal client faults (behind_answers xs) ≡ None → (o : Option Tree) → reply_of_parts (sent command) (part_replies xs) ≡ o → CallServed meaning done call (or_bad_reply (option_and_then (answer_in call) o)) xs moves
    by_reply fine None made = refused bad_reply kept_here
    by_reply fine (Some tree) made = by_answer fine tree made (answer_in call tree) refl

    by_refusal : (o : Option Refusal) → part_refusal client faults (behind_answers xs) ≡ o → CallServed meaning done call (unless o (or_bad_reply (option_and_then (answer_in call) (reply_of_parts (sent command) (part_replies xs))))) xs moves
    by_refusal None fine = by_reply fine (reply_of_parts (sent command) (part_replies xs)) refl
    by_refusal (Some r) fine = refused r kept_here

  pub command_served : IsLegalCall client picks call xs → CallServed meaning done call (answer_of client picks faults call xs) xs moves
  command_served =
      served_by client faults meaning moves done picks call (one_command command number order) is_command xs
      (λ ds p l. by_refusal ds (plan_sends client picks call command number order ds is_command p) l (part_refusal client faults (behind_answers xs)) refl)
      (λ r l. refused r (unsent l))
