-- All that a transaction's requests do is done on the slot of its commands.
use Rattle.std.specs.Prelude.{MatchBool, ◌⊎◌}
use Rattle.std.proofs.Common.{◌≡◌, ℕ, zero, suc, ◌-◌, ◌==◌, Bool, true, false, cond, List, [], ◌∷◌, ◌++◌, map, length, drop, Option, Some, None, Result, Ok, Err, MatchResult, refl, sym, ap, ◌∙◌, subst, eqb-true, inl, inr}
use Rattle.std.specs.List.{AllByRecursion}
use Rattle.resp_core.specs.Errors.{Refusal, at_position}
use Rattle.resp_args.specs.Command.{Command}
use Rattle.resp_args.specs.Packed.{sent}
use Rattle.cluster_routing.specs.Address.{Address}
use Rattle.cluster_routing.specs.Lists.{concat, Pairwise}
use Rattle.cluster_routing.specs.Routing.{name_of}
use Rattle.cluster_calls.proofs.Lists.{all-append}
use Rattle.cluster_calls.specs.Calls.Call.{Call}
use Rattle.cluster_calls.specs.Calls.Legal.{AreMade, AttemptAfterAttempt, IsLegalCall, first_hop}
use Rattle.cluster_calls.specs.Calls.OneSlot.{args_of, common_slot, is_outside, own_slot, part_slot, parts_at, transaction_parts, with_own}
use Rattle.cluster_calls.specs.Calls.Parts.{Part, Target, at_slot, at_number, at_node, if_at_slot, if_one_slot, parts_of, reads_several_slots, result_then, whole_part, unless}
use Rattle.cluster_calls.specs.Calls.Plan.{Client, Dispatch, dispatches, in_order, order_of, plan}
use Rattle.cluster_calls.specs.Calls.Redirects.{Hop}
use Rattle.cluster_calls.specs.Calls.Replies.{args_slot}
use Rattle.cluster_calls.specs.Calls.Task.{Task, early_refusal, task_of, transaction_of}
use Rattle.cluster_calls.specs.Calls.TaskParts.{task_parts}
use Rattle.cluster_calls.specs.Calls.Transactions.{attempt, attempt_log, is_as_one, last_attempt, replies_in, size, without_asking}
use Rattle.cluster_calls.specs.Links.Log.{Exchange, requests}
use Rattle.cluster_calls.specs.Links.Request.{Request, exec}
use Rattle.cluster_calls.specs.OneServer.Honest.{Accounts, IsDoneBy, counts, operation_of}
use Rattle.cluster_calls.specs.OneServer.Keyspace.{Step}
use Rattle.cluster_calls.specs.OneServer.Meaning.{Meaning, DoesWhole, DoOperation}
use Rattle.cluster_calls.specs.OneServer.Operations.{RunAsOne, RunCommand, Response, is_exec, task_operation}
use Rattle.cluster_calls.proofs.LogLaws.Gaps.{every_gap_names_no_key}
use Rattle.cluster_calls.proofs.LogLaws.PipePlans.{IsOneSlot, target_slot, whole_one_slot}
use Rattle.cluster_calls.proofs.ServerLaws.AsOne.{by_exec, last_is}
use Rattle.cluster_calls.proofs.ServerLaws.Draw.{pairwise-nil}

-- ---- its commands have one slot

module _ (k : ℕ) where
  pub record HasSlot (args : List (List ℕ)) : Type 0 where
    pub slot : args_slot args ≡ k
    pub one : IsOneSlot args

  own_is : (command : Command) → own_slot command ≡ Some k → HasSlot (sent command)
  own_is command e = by (is_outside (name_of command.args) command.args) e
    where
      at : (part : Part) → parts_of [] command 0 ≡ Ok (part ∷ []) → (t : Target) → part.target ≡ t → part_slot (if_at_slot (sent command) t) ≡ Some k → HasSlot (sent command)
      at part p (at_number n) t e = cc
      at part p (at_node node) t e = cc
      at part p (at_slot route) t e =
          let there : route.slot ≡ k = cc in
          record { slot = sym (target_slot command part p (λ r h. every_gap_names_no_key command [] r h) route t) ∙ there; one = whole_one_slot command part p }

      whole : (o : Result (List Part) Refusal) → parts_of [] command 0 ≡ o → part_slot (whole_part (sent command) o) ≡ Some k → HasSlot (sent command)
      whole (Err r) p e = cc
      whole (Ok []) p e = cc
      whole (Ok (part ∷ part2 ∷ more)) p e = cc
      whole (Ok (part ∷ [])) p e = at part p part.target refl e

      of_one : (b : Bool) → part_slot (if_one_slot b (whole_part (sent command) (parts_of [] command 0))) ≡ Some k → HasSlot (sent command)
      of_one true e = cc
      of_one false e = whole (parts_of [] command 0) refl e

      by : (b : Bool) → cond b None (part_slot (if_one_slot (reads_several_slots command.args) (whole_part (sent command) (parts_of [] command 0)))) ≡ Some k → HasSlot (sent command)
      by true e = cc
      by false e = of_one (reads_several_slots command.args) e

  known_slot : (position known : ℕ) (commands : List Command) → common_slot position (Some known) commands ≡ Ok (Some k) → (known ≡ k) × AllByRecursion HasSlot (args_of commands)
  known_slot position known [] e = (cc, tt)
  known_slot position known (c ∷ cs) e = by (own_slot c) refl e (λ own h. known_slot (suc position) own cs h)
    where
      Later : Type 0
      Later = (own : ℕ) → common_slot (suc position) (Some own) cs ≡ Ok (Some k) → (own ≡ k) × AllByRecursion HasSlot (args_of cs)

      agreed : (own : ℕ) → own_slot c ≡ Some own → (b : Bool) → known == own ≡ b → cond b (common_slot (suc position) (Some own) cs) (Err (at_position position)) ≡ Ok (Some k) → Later
          → (known ≡ k) × AllByRecursion HasSlot (args_of (c ∷ cs))
      agreed own o true same e later = let r = later own e in (eqb-true known own same ∙ r.0, (own_is c (o ∙ ap Some r.0), r.1))
      agreed own o false same e later = cc

      by : (o : Option ℕ) → own_slot c ≡ o → with_own position (Some known) o (λ s. common_slot (suc position) s cs) ≡ Ok (Some k) → Later → (known ≡ k) × AllByRecursion HasSlot (args_of (c ∷ cs))
      by None o e later = cc
      by (Some own) o e later = agreed own o (known == own) refl e later

  all_have : (commands : List Command) → common_slot 0 None commands ≡ Ok (Some k) → AllByRecursion HasSlot (args_of commands)
  all_have [] e = tt
  all_have (c ∷ cs) e = by (own_slot c) refl e
    where
      by : (o : Option ℕ) → own_slot c ≡ o → with_own 0 None o (λ s. common_slot 1 s cs) ≡ Ok (Some k) → AllByRecursion HasSlot (args_of (c ∷ cs))
      by None o e = cc
      by (Some own) o e = let r = known_slot 1 own cs e in (own_is c (o ∙ ap Some r.0), r.1)

  -- ---- each of its requests that count is one of them, or EXEC

  abbrev IsOfIt : List (List ℕ) → Type 0
  IsOfIt args = (is_exec args ≡ true) ⊎ HasSlot args

  abbrev AreOfIt : List Exchange → Type 0
  AreOfIt xs = AllByRecursion (λ (x : Exchange). IsOfIt x.request.args) xs

  with_exec : (all : List (List (List ℕ))) → AllByRecursion HasSlot all → AllByRecursion IsOfIt (all ++ exec ∷ [])
  with_exec [] h = (inl refl, tt)
  with_exec (args ∷ all) h = (inr h.0, with_exec all h.1)

  asked_so : (node : Address) (all : List (List (List ℕ))) (xs : List Exchange) → AllByRecursion IsOfIt all → requests xs ≡ map (without_asking node) all → AreOfIt xs
  asked_so node [] [] h e = tt
  asked_so node [] (x ∷ xs) h e = cc
  asked_so node (args ∷ all) [] h e = cc
  asked_so node (args ∷ all) (x ∷ xs) h e =
      let here : x.request ≡ without_asking node args = cc in
      let later : requests xs ≡ map (without_asking node) all = cc in
      (subst IsOfIt (sym (ap (λ (q : Request). q.args) here)) h.0, asked_so node all xs h.1 later)

  behind_multi : (hop : Hop) (all : List (List (List ℕ))) (ys : List Exchange) → AllByRecursion HasSlot all → requests ys ≡ attempt hop all → AreOfIt (drop 1 ys)
  behind_multi hop all [] h e = tt
  behind_multi hop all (y ∷ ys) h e = let later : requests ys ≡ map (without_asking hop.node) (all ++ exec ∷ []) = cc in asked_so hop.node (all ++ exec ∷ []) ys (with_exec all h) later

  of_attempt : (hop : Hop) (all : List (List (List ℕ))) (ys : List Exchange) → AllByRecursion HasSlot all → requests ys ≡ attempt hop all → AreOfIt (attempt_log ys)
  of_attempt hop all ys h e = by (is_as_one (replies_in ys))
    where
      by : (b : Bool) → AreOfIt (cond b (drop (length ys - 1) ys) (drop 1 ys))
      by true = let r = by_exec hop all ys e in subst AreOfIt (sym r.alone) (inl (ap is_exec r.args), tt)
      by false = behind_multi hop all ys h e

  -- ---- and what these do is done on that slot

  abbrev AreThere : List Step → Type 0
  AreThere steps = AllByRecursion (λ (x : Step). x.slot ≡ k) steps

  whole_there : (all : List (List (List ℕ))) (steps : List Step) → AllByRecursion HasSlot all → Pairwise DoesWhole all steps → AreThere steps
  whole_there [] [] h p = tt
  whole_there [] (x ∷ steps) h p = absurd p
  whole_there (args ∷ all) [] h p = absurd p
  whole_there (args ∷ all) (x ∷ steps) h p = (p.0.slot ∙ h.0.slot, whole_there all steps h.1 p.1)

  module _ (meaning : Meaning) (done : ℕ → Bool) (call : Call) (commands : List Command) (is_it : task_of call ≡ transaction_of commands) (have : AllByRecursion HasSlot (args_of commands)) where
    done_there : (args : List (List ℕ)) (steps : List Step) (response : Response) → IsOfIt args → DoOperation (task_operation (transaction_of commands) args) steps response → AreThere steps
    done_there args steps response of_it d = by (is_exec args) of_it d
      where
        by : (b : Bool) → (b ≡ true) ⊎ HasSlot args → DoOperation (cond b (RunAsOne (args_of commands)) (RunCommand args)) steps response → AreThere steps
        by true o d = whole_there (args_of commands) steps have d.0
        by false (inl e) d = cc
        by false (inr h) d = subst (λ n. AllByRecursion (λ (x : Step). x.slot ≡ n) steps) h.slot (h.one steps d.0 d.2)

    exchange_there : (x : Exchange) (steps : List Step) → IsOfIt x.request.args → Accounts meaning done call x steps → AreThere steps
    exchange_there x steps of_it a = by (counts done (operation_of call x) x) a
      where
        by : (b : Bool) → MatchBool b (IsDoneBy meaning (operation_of call x) x steps) (steps ≡ []) → AreThere steps
        by true d = done_there x.request.args steps d.response of_it (subst (λ task. DoOperation (task_operation task x.request.args) steps d.response) is_it d.done)
        by false none = subst AreThere (sym none) tt

    pub all_there : (xs : List Exchange) (own : List (List Step)) → AreOfIt xs → Pairwise (Accounts meaning done call) xs own → AreThere (concat own)
    all_there [] [] h p = tt
    all_there [] (steps ∷ own) h p = absurd p
    all_there (x ∷ xs) [] h p = absurd p
    all_there (x ∷ xs) (steps ∷ own) h p = all-append (λ (x : Step). x.slot ≡ k) steps (concat own) (exchange_there x steps h.0 p.0) (all_there xs own h.1 p.1)

-- ---- a legal call

none_left : {X : Type 0} (n : ℕ) → drop n (let xs : List X = [] in xs) ≡ []
none_left zero = refl
none_left (suc n) = refl

no_log : (all : List (List (List ℕ))) (xs : List Exchange) → xs ≡ [] → attempt_log (last_attempt all xs) ≡ []
no_log all xs none = ap attempt_log (ap (λ zs. drop (length xs - size all) zs) none ∙ none_left (length xs - size all))

module _ (client : Client) (picks : List Address) (call : Call) (commands : List Command) (is_it : task_of call ≡ transaction_of commands) where
  abbrev at_task : List Dispatch → Task → Type 0
  at_task ds task = result_then (unless (early_refusal call) (task_parts client.settings.read_only client.entries task)) (λ parts. result_then (dispatches client picks parts) (λ es. Ok (in_order (order_of task) es))) ≡ Ok ds

  planned_slot : (ds : List Dispatch) → plan client picks call ≡ Ok ds → (ds ≡ []) ⊎ ((k : ℕ) × (common_slot 0 None commands ≡ Ok (Some k)))
  planned_slot ds e = early (early_refusal call) (subst (at_task ds) is_it e)
    where
      by : (c : Result (Option ℕ) Refusal) → common_slot 0 None commands ≡ c
          → result_then (result_then c (λ slot. Ok (parts_at (args_of commands) slot))) (λ parts. result_then (dispatches client picks parts) (λ es. Ok es)) ≡ Ok ds
          → (ds ≡ []) ⊎ ((k : ℕ) × (common_slot 0 None commands ≡ Ok (Some k)))
      by (Err r) c e = cc
      by (Ok None) c e = let none : ds ≡ [] = cc in inl none
      by (Ok (Some k)) c e = inr (k, c)

      early : (o : Option Refusal) → result_then (unless o (transaction_parts commands)) (λ parts. result_then (dispatches client picks parts) (λ es. Ok es)) ≡ Ok ds → (ds ≡ []) ⊎ ((k : ℕ) × (common_slot 0 None commands ≡ Ok (Some k)))
      early (Some r) e = cc
      early None e = by (common_slot 0 None commands) refl e

-- all steps of a transaction are on one slot
pub transaction_on_one : (client : Client) (meaning : Meaning) (done : ℕ → Bool) (picks : List Address) (call : Call) (commands : List Command) (xs : List Exchange) (own : List (List Step)) → task_of call ≡ transaction_of commands
    → IsLegalCall client picks call xs → Pairwise (Accounts meaning done call) (attempt_log (last_attempt (args_of commands) xs)) own → (k : ℕ) × AllByRecursion (λ (x : Step). x.slot ≡ k) (concat own)
transaction_on_one client meaning done picks call commands xs own is_it legal accounts = by (plan client picks call) refl legal
  where
    nothing : xs ≡ [] → (k : ℕ) × AllByRecursion (λ (x : Step). x.slot ≡ k) (concat own)
    nothing none =
        let empty : own ≡ [] = pairwise-nil (Accounts meaning done call) own (subst (λ zs. Pairwise (Accounts meaning done call) zs own) (no_log (args_of commands) xs none) accounts) in
        (0, subst (λ q. AllByRecursion (λ (x : Step). x.slot ≡ 0) (concat q)) (sym empty) tt)

    sent : (k : ℕ) → common_slot 0 None commands ≡ Ok (Some k) → (ds : List Dispatch) → AttemptAfterAttempt client (args_of commands) ds xs → (k : ℕ) × AllByRecursion (λ (x : Step). x.slot ≡ k) (concat own)
    sent k c [] none = nothing none
    sent k c (d ∷ ds) follows =
        let have = all_have k commands c in
        let l = last_is client.links (args_of commands) client.settings.budget (first_hop d) xs follows in
        (k, all_there k meaning done call commands is_it have _ own (of_attempt k l.0 (args_of commands) _ have l.1) accounts)

    made : (ds : List Dispatch) → (ds ≡ []) ⊎ ((k : ℕ) × (common_slot 0 None commands ≡ Ok (Some k))) → AttemptAfterAttempt client (args_of commands) ds xs → (k : ℕ) × AllByRecursion (λ (x : Step). x.slot ≡ k) (concat own)
    made ds (inl none) follows = nothing (subst (λ es. AttemptAfterAttempt client (args_of commands) es xs) none follows)
    made ds (inr c) follows = sent c.0 c.1 ds follows

    by : (o : Result (List Dispatch) Refusal) → plan client picks call ≡ o → MatchResult o (λ ds. AreMade client (task_of call) ds xs) (λ refusal. xs ≡ []) → (k : ℕ) × AllByRecursion (λ (x : Step). x.slot ≡ k) (concat own)
    by (Err refusal) p none = nothing none
    by (Ok ds) p made_so = made ds (planned_slot client picks call commands is_it ds p) (subst (λ task. AreMade client task ds xs) is_it made_so)
