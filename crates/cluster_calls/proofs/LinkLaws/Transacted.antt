-- A whole transaction: from the checks before its first byte, or from its attempts.
use Rattle.std.specs.Prelude.{option_and_then}
use Rattle.std.proofs.Common.{◌≡◌, ◌≢◌, ℕ, zero, suc, ◌-◌, Bool, true, false, cond, List, [], ◌∷◌, ◌++◌, map, length, drop, Option, Some, None, Result, Ok, Err, refl, sym, ap, ◌∙◌, subst}
use Rattle.std.proofs.lemmas.Bool.{false≢true}
use Rattle.resp_core.specs.Trees.{Tree, array, no_trees}
use Rattle.resp_core.specs.Errors.{Refusal, at_position, by_cause}
use Rattle.resp_core.specs.declared.errors.redis_error.Cause.TheVariants.{Memory, NoLink, NoNode}
use Rattle.resp_args.specs.Command.{Command}
use Rattle.cluster_routing.specs.Address.{Address}
use Rattle.cluster_routing.specs.Choice.{Strategy}
use Rattle.cluster_routing.specs.Policies.{or_bad_reply}
use Rattle.cluster_routing.specs.Routing.{route_to}
use Rattle.cluster_routing.specs.SlotMap.{Nodes, nodes_at}
use Rattle.cluster_routing.specs.declared.route.SlotAddr.TheVariants.{Master}
use Rattle.cluster_calls.specs.Calls.Answer.{Answer, Value, answer_in}
use Rattle.cluster_calls.specs.Calls.Call.{Transaction}
use Rattle.cluster_calls.specs.Calls.OneSlot.{agrees, args_of, common_slot, own_slot, parts_at, with_own}
use Rattle.cluster_calls.specs.Calls.Parts.{Part, at_slot, part_to, result_then, unless}
use Rattle.cluster_calls.specs.Calls.Picks.{ArePartPicks, ArePicks, ArePicksOf}
use Rattle.cluster_calls.specs.Calls.Plan.{Client, Dispatch, dispatches, plan}
use Rattle.cluster_calls.specs.Calls.Redirects.{Next, Stays, Lost, Goes}
use Rattle.cluster_calls.specs.Calls.Refusals.{refusal_in}
use Rattle.cluster_calls.specs.Calls.Replies.{only_reply, transaction_reply}
use Rattle.cluster_calls.specs.Calls.Transactions.{answers, attempt_answer, attempt_count, commands_answer, dispatches_to, error_or_bad, exec_reply, first_own_error, first_to, is_okay, last_attempt, lost_refusal, multi_reply, next_attempt, replies_in, sent_answer, size, unless_lost}
use Rattle.cluster_calls.specs.Links.AttemptRuns.{AttemptsMade}
use Rattle.cluster_calls.specs.Links.Converted.{ReplyMade, value_answer}
use Rattle.cluster_calls.specs.Links.Faults.{LinkFault}
use Rattle.cluster_calls.specs.Links.Happened.{client_of, Answered, CallMade, Happened}
use Rattle.cluster_calls.specs.Links.Log.{Exchange}
use Rattle.cluster_calls.specs.Links.Request.{exec, multi}
use Rattle.cluster_calls.specs.Links.Run.{with_log}
use Rattle.cluster_calls.specs.Links.World.{World, is_linked}
use Rattle.cluster_calls.proofs.LinkLaws.LackingLists.{may_lack, some_events, value_lacked}
use Rattle.cluster_calls.proofs.LinkLaws.MovedLaws.{answered_plain}
use Rattle.cluster_calls.proofs.LinkLaws.OneCommand.{Untouched, nothing_happened, refused_by, relogged_untouched, reply_not_sent}
use Rattle.cluster_calls.proofs.LinkLaws.PartedCalls.{happened_by}
use Rattle.cluster_calls.proofs.LinkLaws.Played.{call_made}

-- ---- the plan, by the one slot of the commands

abbrev to_slot : ℕ → List (List ℕ) → Part
to_slot slot args = part_to args (at_slot (route_to Master slot))

-- all of it goes to the primary of the slot
abbrev pub planned_at : List Address → List Command → Option Nodes → Result (List Dispatch) Refusal
planned_at links commands None = Err (by_cause NoNode)
planned_at links commands (Some nodes) = cond (is_linked links nodes.primary) (Ok (dispatches_to nodes.primary (args_of commands))) (Err (by_cause NoLink))

module _ (client : Client) (picks : List Address) (commands : List Command) where
  abbrev planned_by : Result (Option ℕ) Refusal → Result (List Dispatch) Refusal
  planned_by common = result_then (result_then common (λ slot. Ok (parts_at (args_of commands) slot))) (λ parts. result_then (dispatches client picks parts) (λ ds. Ok ds))

  by_slot : (common : Result (Option ℕ) Refusal) → common_slot 0 None commands ≡ common → plan client picks (Transaction commands) ≡ planned_by common
  by_slot common e = ap planned_by e

  pub slot_refused : (refusal : Refusal) → common_slot 0 None commands ≡ Err refusal → plan client picks (Transaction commands) ≡ Err refusal
  slot_refused refusal e = by_slot (Err refusal) e

  pub without_slot : common_slot 0 None commands ≡ Ok None → plan client picks (Transaction commands) ≡ Ok []
  without_slot e = by_slot (Ok None) e

  to_primary : (slot : ℕ) (nodes : Nodes) → nodes_at slot client.entries ≡ Some nodes → is_linked client.links nodes.primary ≡ true → (all : List (List (List ℕ)))
      → dispatches client picks (map (to_slot slot) all) ≡ Ok (map (λ args. (let d : Dispatch = record { node = nodes.primary; args = args } in d)) all)
  to_primary slot nodes at linked [] = refl
  to_primary slot nodes at linked (args ∷ all) = rw (at, linked, to_primary slot nodes at linked all) refl

  pub slot_planned : (slot : ℕ) → common_slot 0 None commands ≡ Ok (Some slot) → plan client picks (Transaction commands) ≡ planned_at client.links commands (nodes_at slot client.entries)
  slot_planned slot e = by_slot (Ok (Some slot)) e ∙ at (nodes_at slot client.entries) refl
    where
      all : List (List (List ℕ))
      all = multi ∷ args_of commands ++ exec ∷ []

      linked_by : (nodes : Nodes) → nodes_at slot client.entries ≡ Some nodes → (l : Bool) → is_linked client.links nodes.primary ≡ l
          → result_then (dispatches client picks (map (to_slot slot) all)) (λ ds. Ok ds) ≡ cond l (Ok (dispatches_to nodes.primary (args_of commands))) (Err (by_cause NoLink))
      linked_by nodes at true k = rw (to_primary slot nodes at k all) refl
      linked_by nodes at false k = rw (at, k) refl

      at : (ns : Option Nodes) → nodes_at slot client.entries ≡ ns → result_then (dispatches client picks (map (to_slot slot) all)) (λ ds. Ok ds) ≡ planned_at client.links commands ns
      at None k = rw k refl
      at (Some nodes) k = linked_by nodes k (is_linked client.links nodes.primary) refl

-- ---- no strategy is asked

module _ (admits : Strategy) (client : Client) (commands : List Command) where
  primary_picks : (slot : ℕ) (all : List (List (List ℕ))) → ArePartPicks admits client (map (to_slot slot) all) []
  primary_picks slot [] = refl
  primary_picks slot (args ∷ all) = by (nodes_at slot client.entries) refl (primary_picks slot all)
    where
      linked_by : (nodes : Nodes) → nodes_at slot client.entries ≡ Some nodes → ArePartPicks admits client (map (to_slot slot) all) [] → (l : Bool) → is_linked client.links nodes.primary ≡ l
          → ArePartPicks admits client (map (to_slot slot) (args ∷ all)) []
      linked_by nodes k later true l = rw (k, l) (tt, later)
      linked_by nodes k later false l = rw (k, l) (tt, refl)

      by : (ns : Option Nodes) → nodes_at slot client.entries ≡ ns → ArePartPicks admits client (map (to_slot slot) all) [] → ArePartPicks admits client (map (to_slot slot) (args ∷ all)) []
      by None k later = rw k (tt, refl)
      by (Some nodes) k later = linked_by nodes k later (is_linked client.links nodes.primary) refl

  picks_by : (common : Result (Option ℕ) Refusal) → ArePicksOf admits client (result_then common (λ slot. Ok (parts_at (args_of commands) slot))) []
  picks_by (Err refusal) = refl
  picks_by (Ok None) = refl
  picks_by (Ok (Some slot)) = primary_picks slot (multi ∷ args_of commands ++ exec ∷ [])

pub no_picks : (strategy : Option Strategy) (client : Client) (commands : List Command) → ArePicks strategy client (Transaction commands) []
no_picks None client commands = refl
no_picks (Some admits) client commands = picks_by admits client commands (common_slot 0 None commands)

-- ---- nothing was sent

-- commands without a slot are none
some_slot : (position slot : ℕ) (commands : List Command) → common_slot position (Some slot) commands ≡ Ok None → ⊥
some_slot position slot [] e = cc
some_slot position slot (c ∷ cs) e = by (own_slot c) e (λ own k. some_slot (suc position) own cs k)
  where
    Later : Type 0
    Later = (own : ℕ) → common_slot (suc position) (Some own) cs ≡ Ok None → ⊥

    agreed : (own : ℕ) (b : Bool) → cond b (common_slot (suc position) (Some own) cs) (Err (at_position position)) ≡ Ok None → Later → ⊥
    agreed own true k later = later own k
    agreed own false k later = cc

    by : (o : Option ℕ) → with_own position (Some slot) o (λ s. common_slot (suc position) s cs) ≡ Ok None → Later → ⊥
    by None k later = cc
    by (Some own) k later = agreed own (agrees (Some slot) own) k later

no_commands : (commands : List Command) → common_slot 0 None commands ≡ Ok None → commands ≡ []
no_commands [] e = refl
no_commands (c ∷ cs) e = by (own_slot c) e
  where
    by : (o : Option ℕ) → with_own 0 None o (λ s. common_slot 1 s cs) ≡ Ok None → c ∷ cs ≡ []
    by None k = cc
    by (Some own) k = absurd (some_slot 1 own cs k)

-- nor are commands for which nothing is to be sent
unplanned : (client : Client) (picks : List Address) (commands : List Command) → plan client picks (Transaction commands) ≡ Ok [] → commands ≡ []
unplanned client picks commands e = by (common_slot 0 None commands) refl
  where
    linked : (node : Address) (b : Bool) → cond b (Ok (dispatches_to node (args_of commands))) (Err (by_cause NoLink)) ≡ Ok [] → ⊥
    linked node true k = cc
    linked node false k = cc

    at : (ns : Option Nodes) → planned_at client.links commands ns ≡ Ok [] → ⊥
    at None k = cc
    at (Some nodes) k = linked nodes.primary (is_linked client.links nodes.primary) k

    by : (common : Result (Option ℕ) Refusal) → common_slot 0 None commands ≡ common → commands ≡ []
    by (Err refusal) k = let bad = sym (slot_refused client picks commands refusal k) ∙ e in cc
    by (Ok None) k = no_commands commands k
    by (Ok (Some slot)) k = absurd (at (nodes_at slot client.entries) (sym (slot_planned client picks commands slot k) ∙ e))

-- the world stays, but for its log and its picks, of which there are none
module _ (strategy : Option Strategy) (old new : World) (commands : List Command) (stays : new ≡ with_log old [] []) where
  untouched : Untouched old new
  untouched = relogged_untouched old new [] stays

  none : new.picked ≡ []
  none = ap (λ (w : World). w.picked) stays

  pub picked : ArePicks strategy (client_of old) (Transaction commands) new.picked
  picked = subst (ArePicks strategy (client_of old) (Transaction commands)) (sym none) (no_picks strategy (client_of old) commands)

  -- a check before sending was not met, or memory was refused
  pub transaction_refused : (refusal : Refusal) → (refused_by refusal ≢ Err (by_cause Memory) → plan (client_of old) [] (Transaction commands) ≡ Err refusal) → ReplyMade strategy old new (Transaction commands) (Err refusal)
  transaction_refused refusal why =
      reply_not_sent strategy old new (Transaction commands) refusal refl untouched none (λ m. (subst (λ ps. plan (client_of old) ps (Transaction commands) ≡ Err refusal) (sym none) (why m), picked))

-- there were no commands
pub transaction_empty : (strategy : Option Strategy) (old new : World) (commands : List Command) → new ≡ with_log old [] [] → plan (client_of old) [] (Transaction commands) ≡ Ok [] → ReplyMade strategy old new (Transaction commands) (Ok (array no_trees))
transaction_empty strategy old new commands stays planned = record { made = made; missing = λ lacks place. cc }
  where
    made : CallMade strategy old new (Transaction commands) (Ok (Value (array no_trees)))
    made = subst (λ cs. CallMade strategy old new (Transaction cs) (Ok (Value (array no_trees)))) (sym (unplanned (client_of old) [] commands planned)) empty
      where
        u : Untouched old new
        u = relogged_untouched old new [] stays

        empty : CallMade strategy old new (Transaction []) (Ok (Value (array no_trees)))
        empty =
            call_made strategy old new (Transaction []) (Ok (Value (array no_trees))) (nothing_happened strategy old new (Transaction []) u)
            (λ m. answered_plain strategy old new (Transaction []) (Ok (Value (array no_trees))) (nothing_happened strategy old new (Transaction []) u) refl tt (λ e. refl) u.log (picked strategy old new [] stays) (λ place. refl) (λ faults agrees place. refl))
            (λ e n. absurd (false≢true n))
            (λ e l. ap (λ (w : World). w.picked) stays)
            (λ e some. cc)

-- ---- the answer is the reply to EXEC

module _ (tree : Tree) where
  abbrev Replied : Option Tree → Type 0
  Replied reply = reply ≡ Some tree

  last_replied : (xs : List Exchange) → Replied (exec_reply (replies_in xs)) → Replied (only_reply xs)
  last_replied [] e = cc
  last_replied (x ∷ []) e = e
  last_replied (x ∷ y ∷ xs) e = last_replied (y ∷ xs) e

  more : (x : Exchange) (xs : List Exchange) → Replied (only_reply xs) → Replied (only_reply (x ∷ xs))
  more x [] e = cc
  more x (y ∷ xs) e = e

  behind : (n : ℕ) (xs : List Exchange) → Replied (exec_reply (replies_in (drop n xs))) → Replied (only_reply xs)
  behind zero xs e = last_replied xs e
  behind (suc n) [] e = cc
  behind (suc n) (x ∷ xs) e = more x xs (behind n xs e)

  there : (o : Option Tree) → or_bad_reply o ≡ Ok tree → Replied o
  there None e = cc
  there (Some t) e = let same : t ≡ tree = cc in ap Some same

  pub answered_by : (replies : List (Option Tree)) → attempt_answer replies ≡ Ok tree → Replied (exec_reply replies)
  answered_by replies e = by (answers (is_okay (multi_reply replies)) (first_own_error replies) (exec_reply replies)) e
    where
      by : (b : Bool) → cond b (or_bad_reply (exec_reply replies)) (Err (error_or_bad (first_own_error replies))) ≡ Ok tree → Replied (exec_reply replies)
      by true k = there (exec_reply replies) k
      by false k = cc

  pub not_lost : (next : Next) (answer : Result Tree Refusal) → unless_lost next answer ≡ Ok tree → answer ≡ Ok tree
  not_lost Stays answer e = e
  not_lost Lost answer e = cc
  not_lost (Goes hop) answer e = e

  pub not_refused : (o : Option Refusal) (answer : Result Tree Refusal) → unless o answer ≡ Ok tree → answer ≡ Ok tree
  not_refused None answer e = e
  not_refused (Some refusal) answer e = cc

  pub sent_replied : (client : Client) (faults : Address → LinkFault) (commands : List (List (List ℕ))) (xs : List Exchange) → sent_answer client faults commands xs ≡ Ok tree → Replied (only_reply xs)
  sent_replied client faults commands xs e =
      let ys = last_attempt commands xs in
      let next = next_attempt client.links (suc client.settings.budget - attempt_count commands xs) (replies_in ys) in
      behind (length xs - size commands) xs (answered_by (replies_in ys) (not_lost next (attempt_answer (replies_in ys)) (not_refused (lost_refusal faults ys) (unless_lost next (attempt_answer (replies_in ys))) e)))

pub sent_is : (client : Client) (faults : Address → LinkFault) (commands : List Command) (xs : List Exchange) → commands ≢ [] → commands_answer client faults commands xs ≡ sent_answer client faults (args_of commands) xs
sent_is client faults [] xs some = absurd (some refl)
sent_is client faults (c ∷ cs) xs some = refl

pub reply_is : (commands : List Command) (xs : List Exchange) → commands ≢ [] → transaction_reply commands xs ≡ only_reply xs
reply_is [] xs some = absurd (some refl)
reply_is (c ∷ cs) xs some = refl

module _ (client : Client) (faults : Address → LinkFault) (commands : List Command) (xs : List Exchange) where
  abbrev Told : Result Tree Refusal → Option Tree → Result Answer Refusal
  Told reply last = unless (refusal_in reply) (or_bad_reply (option_and_then (answer_in (Transaction commands)) last))

  told_by : (reply : Result Tree Refusal) → sent_answer client faults (args_of commands) xs ≡ reply → value_answer reply ≡ Told reply (only_reply xs)
  told_by (Err refusal) e = refl
  told_by (Ok tree) e = sym (ap (λ o. or_bad_reply (option_and_then (answer_in (Transaction commands)) o)) (sent_replied tree client faults (args_of commands) xs e))

  sent_told : (reply : Result Tree Refusal) → commands ≢ [] → reply ≡ sent_answer client faults (args_of commands) xs → value_answer reply ≡ Told (commands_answer client faults commands xs) (transaction_reply commands xs)
  sent_told reply some e =
      told_by reply (sym e)
      ∙ ap (λ r. Told r (only_reply xs)) (e ∙ sym (sent_is client faults commands xs some))
      ∙ ap (Told (commands_answer client faults commands xs)) (sym (reply_is commands xs some))

-- ---- attempts were made

module _ (strategy : Option Strategy) (old new : World) (commands : List Command) (node : Address) (reply : Result Tree Refusal) (none : new.picked ≡ []) (some : commands ≢ [])
    (planned : plan (client_of old) new.picked (Transaction commands) ≡ Ok (dispatches_to node (args_of commands))) (a : AttemptsMade (with_log old [] []) new (first_to node) (args_of commands) reply) where
  picks : ArePicks strategy (client_of old) (Transaction commands) new.picked
  picks = subst (ArePicks strategy (client_of old) (Transaction commands)) (sym none) (no_picks strategy (client_of old) commands)

  abbrev happened : Happened strategy old new (Transaction commands)
  happened =
      happened_by strategy old new (Transaction commands) [] a.events (record { runs = a.runs; logged = a.logged; flag = a.flag; keeps = record { entries = a.entries; settings = a.settings; picked = a.picked } }) a.stops a.attempts picks
      (λ place. record { later = (a.begins place).0; legal = rw planned ((a.begins place).1) })

  answered : value_answer reply ≢ Err (by_cause Memory) → Answered strategy old new (Transaction commands) a.events (value_answer reply)
  answered m =
      let t = a.answered (λ k. m (ap value_answer k)) in
      answered_plain strategy old new (Transaction commands) (value_answer reply) happened refl a.attempts (λ e. t.memory) a.logged picks
      (λ place. rw planned (t.follows place))
      (λ faults agree place. rw planned (sent_told (client_of old) faults commands _ reply some (t.tells faults agree place)))

  some_made : CallMade strategy old new (Transaction commands) (value_answer reply)
  some_made =
      call_made strategy old new (Transaction commands) (value_answer reply) happened answered (λ e n. absurd (false≢true n)) (λ e l. none)
      (λ e any. may_lack (client_of old) new.picked (Transaction commands) a.events refl (λ follows place. rw planned (follows place)) (a.room (value_lacked reply e) (some_events new.log a.events a.logged any)))

  some_transacted : ReplyMade strategy old new (Transaction commands) reply
  unfolding some_made call_made
  some_transacted = record { made = some_made; missing = λ lacks place. a.unanswered lacks place }

-- a plan that sends something is one of some commands
some_planned : (client : Client) (commands : List Command) (node : Address) → plan client [] (Transaction commands) ≡ Ok (dispatches_to node (args_of commands)) → commands ≢ []
some_planned client commands node planned empty =
    let bad : plan client [] (Transaction []) ≡ Ok (dispatches_to node (args_of [])) = subst (λ cs. plan client [] (Transaction cs) ≡ Ok (dispatches_to node (args_of cs))) empty planned in
    cc

pub transaction_made : (strategy : Option Strategy) (old mid new : World) (commands : List Command) (node : Address) (reply : Result Tree Refusal) → mid ≡ with_log old [] [] → plan (client_of old) [] (Transaction commands) ≡ Ok (dispatches_to node (args_of commands))
    → AttemptsMade mid new (first_to node) (args_of commands) reply → ReplyMade strategy old new (Transaction commands) reply
transaction_made strategy old mid new commands node reply stays planned m =
    let a = subst (λ w. AttemptsMade w new (first_to node) (args_of commands) reply) stays m in
    let none : new.picked ≡ [] = a.picked in
    some_transacted strategy old new commands node reply none (some_planned (client_of old) commands node planned)
    (subst (λ ps. plan (client_of old) ps (Transaction commands) ≡ Ok (dispatches_to node (args_of commands))) (sym none) planned) a
