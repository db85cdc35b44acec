-- A call that is not split makes all of its steps on one slot, a command one at most.
use Rattle.std.proofs.Common.{◌≡◌, ℕ, Bool, true, false, cond, ◌==◌, ◌&&◌, List, [], ◌∷◌, ◌++◌, map, filter, Option, Some, None, is_none, Result, Ok, Err, refl, sym, ap, ◌∙◌, subst, eqb-true, eq-eqb, MatchOption, MatchResult}
use Rattle.std.specs.Prelude.{⊤}
use Rattle.std.specs.List.{AllByRecursion, list_all}
use Rattle.std.proofs.lemmas.Bool.{false≢true}
use Rattle.resp_core.specs.Errors.{Refusal}
use Rattle.resp_args.specs.Command.{Command}
use Rattle.resp_args.specs.Packed.{sent}
use Rattle.cluster_routing.specs.Address.{Address}
use Rattle.cluster_routing.specs.Choice.{Strategy}
use Rattle.cluster_routing.specs.Lists.{concat, Pairwise}
use Rattle.cluster_routing.specs.Split.{Split, split_of}
use Rattle.cluster_calls.specs.Links.Log.{Exchange}
use Rattle.cluster_calls.specs.Calls.Call.{Call}
use Rattle.cluster_calls.specs.Calls.Task.{Task, slot_map_of, one_command, pipeline_of, positions_of, several_nodes, one_node, read_of, task_of, transaction_of}
use Rattle.cluster_calls.specs.Calls.After.{client_after}
use Rattle.cluster_calls.specs.Calls.Plan.{Client, Dispatch, plan}
use Rattle.cluster_calls.specs.Links.Faults.{LinkFault}
use Rattle.cluster_calls.specs.Calls.Legal.{AreMade, IsLegalCall}
use Rattle.cluster_calls.specs.OneServer.Headline.{RepliedCall, task_log, IsPlayedFrom}
use Rattle.cluster_calls.specs.OneServer.Honest.{Accounts, is_counted}
use Rattle.cluster_calls.specs.OneServer.Keyspace.{Step, on_slot}
use Rattle.cluster_calls.specs.OneServer.Meaning.{Meaning, DoesTuple, IsWholeStep, DoCommand, tree_of_steps, step_trees}
use Rattle.cluster_calls.specs.OneServer.Operations.{RunCommand, task_operation}
use Rattle.cluster_calls.specs.OneServer.AmongOthers.{Other, in_turn, CallTurns, call_turns, AreItsRequests, are_on_one_slot, is_unsplit_task, is_unsplit, ServedCall, IsServed}
use Rattle.cluster_calls.proofs.ServerLaws.Calls.{plan_sends}
use Rattle.cluster_calls.proofs.ServerLaws.Counted.{counted_steps, parts_begun}
use Rattle.cluster_calls.proofs.ServerLaws.Draw.{pairwise-nil}
use Rattle.cluster_calls.proofs.ServerLaws.OneSlot.{transaction_on_one}
use Rattle.cluster_calls.proofs.ServerLaws.PartCall.{Sends}
use Rattle.cluster_calls.proofs.ServerLaws.Pieces.{IsDoneAs, AccountsAs, same_on_slot}
use Rattle.cluster_calls.proofs.ServerLaws.ReadCall.{read_on_one}
use Rattle.cluster_calls.proofs.ServerLaws.SameSlots.{nothing_left}

abbrev pub AtMostOne : List Step → Type 0
AtMostOne [] = ⊤
AtMostOne (x ∷ []) = ⊤
AtMostOne (x ∷ y ∷ xs) = ⊥

-- ---- one step or none is told by the slots

head_is : (x y : Step) (b : Bool) (r : List Step) → y ∷ r ≡ cond b (x ∷ []) [] → (b ≡ true) × (y ≡ x) × (r ≡ [])
head_is x y true r e = (refl, let a : y ≡ x = cc in a, let b : r ≡ [] = cc in b)
head_is x y false r e = cc

only_this : (x : Step) (ys : List Step) → ((s : ℕ) → on_slot s ys ≡ on_slot s (x ∷ [])) → ys ≡ x ∷ []
only_this x [] h = let e : [] ≡ x ∷ [] = h x.slot ∙ ap (λ b. cond b (x ∷ []) []) (eq-eqb x.slot x.slot refl) in cc
only_this x (y ∷ ys) h =
    let here : y ∷ on_slot y.slot ys ≡ cond (y.slot == x.slot) (x ∷ []) [] = ap (λ b. cond b (y ∷ on_slot y.slot ys) (on_slot y.slot ys)) (sym (eq-eqb y.slot y.slot refl)) ∙ h y.slot in
    let r = head_is x y (y.slot == x.slot) (on_slot y.slot ys) here in
    ap (λ z. z ∷ ys) r.1 ∙ ap (λ q. x ∷ q) (nothing_left ys (λ s. by r.2 r.1 s (s == y.slot) refl (h s)))
  where
    by : on_slot y.slot ys ≡ [] → y ≡ x → (s : ℕ) (b : Bool) → s == y.slot ≡ b → cond (s == y.slot) (y ∷ on_slot s ys) (on_slot s ys) ≡ cond (s == x.slot) (x ∷ []) [] → on_slot s ys ≡ []
    by none same s true e k = ap (λ n. on_slot n ys) (eqb-true s y.slot e) ∙ none
    by none same s false e k =
        sym (ap (λ b. cond b (y ∷ on_slot s ys) (on_slot s ys)) e) ∙ k ∙ ap (λ b. cond b (x ∷ []) []) (ap (λ (z : Step). s == z.slot) (sym same) ∙ e)

same_alone : (xs ys : List Step) → AtMostOne xs → ((s : ℕ) → on_slot s ys ≡ on_slot s xs) → ys ≡ xs
same_alone [] ys one h = nothing_left ys h
same_alone (x ∷ []) ys one h = only_this x ys h
same_alone (x ∷ x2 ∷ xs) ys one h = absurd one

-- ---- a command that is not split makes one step at most

is_whole : (o : Option Split) → is_none o ≡ true → o ≡ None
is_whole None e = refl
is_whole (Some split) e = absurd (false≢true e)

module _ (meaning : Meaning) (args : List (List ℕ)) (whole : split_of args ≡ None) where
  one_step : (steps : List Step) (x : Exchange) → x.request.args ≡ args → IsDoneAs meaning RunCommand x steps → AtMostOne (steps ++ [])
  one_step steps x e h =
      let tree = h.done.0 in
      let d : DoCommand args steps tree = subst (λ a. DoCommand a steps tree) e h.done.2 in
      let w = subst (λ o. MatchOption o ((y : Step) × (steps ≡ y ∷ []) × IsWholeStep args y tree) (λ s. Pairwise (DoesTuple s.splitting.policy s.word s.shared) s.tuples steps × (tree ≡ tree_of_steps s.splitting.policy (step_trees steps)))) whole d in
      subst (λ q. AtMostOne (q ++ [])) (sym w.1) tt

  first_alone : (d : Dispatch) → d.args ≡ args → (begun later : List Dispatch) → d ∷ [] ≡ begun ++ later → (xs : List Exchange) → Pairwise (λ (d : Dispatch) (x : Exchange). x.request.args ≡ d.args) begun xs
      → (sts : List (List Step)) → Pairwise (IsDoneAs meaning RunCommand) xs sts → AtMostOne (concat sts)
  first_alone d e begun later all [] p [] h = tt
  first_alone d e begun later all [] p (st ∷ sts) h = absurd h
  first_alone d e begun later all (x ∷ xs) p [] h = absurd h
  first_alone d e [] later all (x ∷ xs) p (st ∷ sts) h = absurd p
  first_alone d e (d2 ∷ d3 ∷ ds) later all (x ∷ xs) p (st ∷ sts) h = cc
  first_alone d e (d2 ∷ []) later all (x ∷ x2 ∷ xs) p (st ∷ sts) h = absurd p.1
  first_alone d e (d2 ∷ []) later all (x ∷ []) p (st ∷ st2 ∷ sts) h = absurd h.1
  first_alone d e (d2 ∷ []) later all (x ∷ []) p (st ∷ []) h =
      let same : d ≡ d2 = cc in
      one_step st x (p.0 ∙ ap (λ (b : Dispatch). b.args) (sym same) ∙ e) h.0

none_alone : (meaning : Meaning) (done : ℕ → Bool) (call : Call) (xs : List Exchange) (own : List (List Step)) → xs ≡ [] → Pairwise (Accounts meaning done call) xs own → AtMostOne (concat own)
none_alone meaning done call xs own e h =
    let none : own ≡ [] = pairwise-nil (Accounts meaning done call) own (subst (λ q. Pairwise (Accounts meaning done call) q own) e h) in
    subst (λ q. AtMostOne (concat q)) (sym none) tt

command_alone : (client : Client) (meaning : Meaning) (done : ℕ → Bool) (picks : List Address) (call : Call) (command : Command) (number : ℕ) (order : Option (List ℕ)) (xs : List Exchange) (own : List (List Step)) → task_of call ≡ one_command command number order
    → is_none (split_of (sent command)) ≡ true → IsLegalCall client picks call xs → Pairwise (Accounts meaning done call) xs own → AtMostOne (concat own)
command_alone client meaning done picks call command number order xs own is_command unsplit legal accounts = by (plan client picks call) refl legal
  where
    whole : split_of (sent command) ≡ None
    whole = is_whole (split_of (sent command)) unsplit

    by : (o : Result (List Dispatch) Refusal) → plan client picks call ≡ o → MatchResult o (λ ds. AreMade client (task_of call) ds xs) (λ refusal. xs ≡ []) → AtMostOne (concat own)
    by (Err r) p l = none_alone meaning done call xs own l accounts
    by (Ok ds) p l =
        let s = subst (λ o. Sends (sent command) ds o) whole (plan_sends client picks call command number order ds is_command p) in
        let b = parts_begun client done ds xs (subst (λ t. AreMade client t ds xs) is_command l) in
        let c = counted_steps meaning done RunCommand xs own (subst (λ t. Pairwise (AccountsAs meaning done (task_operation t)) xs own) is_command accounts) in
        let one = first_alone meaning (sent command) whole s.0 s.2 b.begun b.later (sym s.1 ∙ b.all) (filter (is_counted done) xs) b.args c.0 c.1 in
        subst AtMostOne (sym (same_alone (concat c.0) (concat own) one (λ k. sym (same_on_slot c.0 own c.2 k)))) one

one_is_on_one : (xs : List Step) → AtMostOne xs → are_on_one_slot xs ≡ true
one_is_on_one [] h = refl
one_is_on_one (x ∷ []) h = refl
one_is_on_one (x ∷ y ∷ xs) h = absurd h

all_on_one : (k : ℕ) (xs : List Step) → AllByRecursion (λ (x : Step). x.slot ≡ k) xs → are_on_one_slot xs ≡ true
all_on_one k [] h = refl
all_on_one k (x ∷ xs) h = by xs h.1
  where
    by : (ys : List Step) → AllByRecursion (λ (y : Step). y.slot ≡ k) ys → list_all (λ (y : Step). x.slot == y.slot) ys ≡ true
    by [] a = refl
    by (y ∷ ys) a = ap (λ b. b && list_all (λ (z : Step). x.slot == z.slot) ys) (eq-eqb x.slot y.slot (h.0 ∙ sym a.0)) ∙ by ys a.1

pub unsplit_on_one : (client : Client) (meaning : Meaning) (done : ℕ → Bool) (picks : List Address) (call : Call) (xs : List Exchange) (own : List (List Step)) → is_unsplit call ≡ true
    → IsLegalCall client picks call xs → Pairwise (Accounts meaning done call) (task_log (task_of call) xs) own → are_on_one_slot (concat own) ≡ true
unsplit_on_one client meaning done picks call xs own unsplit legal accounts = by (task_of call) refl unsplit accounts
  where
    by : (task : Task) → task_of call ≡ task → is_unsplit_task task ≡ true → Pairwise (Accounts meaning done call) (task_log task xs) own → are_on_one_slot (concat own) ≡ true
    by (one_command command number order) t u h = one_is_on_one (concat own) (command_alone client meaning done picks call command number order xs own t u legal h)
    by (slot_map_of node) t u h = one_is_on_one (concat own) (none_alone meaning done call [] own refl h)
    by (pipeline_of entries) t u h = absurd (false≢true u)
    by (positions_of entries) t u h = absurd (false≢true u)
    by (several_nodes command) t u h = absurd (false≢true u)
    by (one_node node command) t u h = absurd (false≢true u)
    by (transaction_of commands) t u h =
        let r = transaction_on_one client meaning done picks call commands xs own t legal h in
        all_on_one r.0 (concat own) r.1
    by (read_of options streams) t u h =
        let r = read_on_one meaning done options streams u xs own (subst (λ k. Pairwise (AccountsAs meaning done (task_operation k)) xs own) t h) in
        all_on_one r.0 (concat own) r.1

-- ---- a run of such calls

pub stays : (strategy : Option Strategy) (faults : Address → LinkFault) (meaning : Meaning) (done : ℕ → Bool) (ts : List RepliedCall) (client : Client) (calls : List CallTurns) (xs : List ServedCall)
    → AllByRecursion (λ (t : RepliedCall). is_unsplit t.call ≡ true) ts → IsPlayedFrom strategy client faults ts → Pairwise (AreItsRequests meaning done) ts calls → Pairwise (IsServed meaning done) ts xs → map (λ (x : ServedCall). x.was) xs ≡ calls
    → concat (map call_turns (map (λ (x : ServedCall). x.now) xs)) ≡ concat (map call_turns calls)
stays strategy faults meaning done [] client calls [] u p q h e = ap (λ cs. concat (map call_turns cs)) e
stays strategy faults meaning done [] client calls (x ∷ xs) u p q h e = absurd h
stays strategy faults meaning done (t ∷ ts) client calls [] u p q h e = absurd h
stays strategy faults meaning done (t ∷ ts) client [] (x ∷ xs) u p q h e = absurd q
stays strategy faults meaning done (t ∷ ts) client (c ∷ cs) (x ∷ xs) u p q h e =
    let was : x.was ≡ c = cc in
    let later : map (λ (y : ServedCall). y.was) xs ≡ cs = cc in
    let one = unsplit_on_one client meaning done t.picks t.call t.log c.own u.0 p.1 q.0 in
    let place = h.0.in_place (subst (λ (d : CallTurns). are_on_one_slot (concat d.own) ≡ true) (sym was) one) in
    ap (λ q. q ++ concat (map call_turns (map (λ (y : ServedCall). y.now) xs))) (ap (λ q. map Other q ++ in_turn x.now.during x.now.own) h.0.before ∙ ap (λ q. map Other x.was.before ++ q) place ∙ ap call_turns was)
    ∙ ap (λ q. call_turns c ++ q) (stays strategy faults meaning done ts (client_after client t.call t.log) cs xs u.1 p.3 q.1 h.1 later)
