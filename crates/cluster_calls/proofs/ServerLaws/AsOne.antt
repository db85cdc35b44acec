-- A transaction is served by one server: all of it by EXEC, or of a refused one what was done.
use Rattle.std.specs.Prelude.{◌&&◌, ◌⊎◌, IfSome, option_and_then, option_map}
use Rattle.std.proofs.Common.{◌≡◌, ◌≢◌, ℕ, zero, suc, ◌+◌, ◌-◌, ◌≤◌, ◌||◌, Bool, true, false, cond, List, [], ◌∷◌, ◌++◌, map, length, take, drop, Option, Some, None, Result, Ok, Err, MatchResult, refl, sym, ap, ◌∙◌, subst, append-nil, inl, inr, arith}
use Rattle.std.proofs.lemmas.Bool.{false≢true}
use Rattle.std.proofs.lemmas.List.{drop-drop, take-append-drop}
use Rattle.resp_core.specs.Trees.{Tree, array, nil, int, bulk, simple, okay, attribute, set, double, boolean, verbatim, big_number, push, server_error, no_trees}
use Rattle.resp_core.specs.Trees.{map as map_tree}
use Rattle.resp_core.specs.Errors.{Refusal}
use Rattle.resp_core.specs.Parts.{first_error}
use Rattle.resp_args.specs.Command.{Command}
use Rattle.cluster_routing.specs.Address.{Address}
use Rattle.cluster_routing.specs.Lists.{Pairwise}
use Rattle.cluster_routing.specs.Policies.{or_bad_reply}
use Rattle.cluster_calls.specs.Calls.Answer.{Answer, Value, answer_in, answer_of}
use Rattle.cluster_calls.specs.Calls.Call.{Transaction}
use Rattle.cluster_calls.specs.Calls.Legal.{AttemptAfterAttempt, IsLegalCall, first_hop}
use Rattle.cluster_calls.specs.Calls.OneSlot.{args_of}
use Rattle.cluster_calls.specs.Calls.Parts.{result_then, unless}
use Rattle.cluster_calls.specs.Calls.Plan.{Client, Dispatch, plan}
use Rattle.cluster_calls.specs.Calls.Redirects.{Hop, Next, Stays, Lost, Goes, MatchNext}
use Rattle.cluster_calls.specs.Calls.Refusals.{refusal_in}
use Rattle.cluster_calls.specs.Calls.Replies.{transaction_reply}
use Rattle.cluster_calls.specs.Calls.Task.{transaction_of}
use Rattle.cluster_calls.specs.Calls.Transactions.{FollowsAttempts, answers, attempt, attempt_answer, attempt_count, attempt_log, commands_answer, error_or_bad, exec_reply, first_own_error, is_array, is_nil, is_okay, last_attempt, lost_refusal, multi_reply, next_attempt, replies_in, reply_there, sent_answer, size, unless_lost, without_asking}
use Rattle.cluster_calls.specs.Links.Faults.{LinkFault}
use Rattle.cluster_calls.specs.Links.Log.{Exchange, is_data_reply, is_unanswered, last_of, requests}
use Rattle.cluster_calls.specs.Links.Request.{Request, exec}
use Rattle.cluster_calls.specs.OneServer.Honest.{counts, IsDoneBy}
use Rattle.cluster_calls.specs.OneServer.Keyspace.{Step}
use Rattle.cluster_calls.specs.OneServer.Meaning.{Meaning, DoAll, DoOperation}
use Rattle.cluster_calls.specs.OneServer.Operations.{Operation, RunAsOne, Response, Reply, task_operation}
use Rattle.cluster_calls.proofs.LinkLaws.Transacted.{answered_by, not_lost, not_refused, reply_is, sent_is, sent_replied}
use Rattle.cluster_calls.proofs.LogLaws.Attempts.{attempt_length, front_length}
use Rattle.cluster_calls.proofs.ServerLaws.Calls.{CallServed, nothing_done}
use Rattle.cluster_calls.proofs.ServerLaws.Counted.{counted_by, counted_steps}
use Rattle.cluster_calls.proofs.ServerLaws.Pieces.{HonestIn, IsDoneAs, ServedIn, pieces}

-- ---- counted requests, each with what it asks for and the response to it

responses_by : (meaning : Meaning) (operation : List (List ℕ) → Operation) (xs : List Exchange) (ss : List (List Step)) → Pairwise (IsDoneAs meaning operation) xs ss
    → (responses : List Response) × DoAll meaning (map (λ (x : Exchange). operation x.request.args) xs) ss responses
responses_by meaning operation [] [] h = ([], tt)
responses_by meaning operation [] (s ∷ ss) h = absurd h
responses_by meaning operation (x ∷ xs) [] h = absurd h
responses_by meaning operation (x ∷ xs) (s ∷ ss) h = let r = responses_by meaning operation xs ss h.1 in (h.0.response ∷ r.0, ((h.0.done, h.0.allowed), r.1))

-- ---- the last attempt of a legal log

module _ (links : List Address) (commands : List (List (List ℕ))) where
  abbrev pub IsAttemptLog : List Exchange → Type 0
  IsAttemptLog xs = (hop : Hop) × (requests xs ≡ attempt hop commands)

  all_there : (xs : List Exchange) → length xs ≡ size commands → last_attempt commands xs ≡ xs
  all_there xs e = let none : length xs - size commands ≡ 0 = omega (arith, e) in ap (λ n. drop n xs) none

  long : (redirects : ℕ) (hop : Hop) (xs : List Exchange) → FollowsAttempts links redirects hop commands xs → size commands ≤ length xs
  long zero hop xs h = let e = attempt_length hop commands xs h in omega (arith, e)
  long (suc redirects) hop xs h = let e = front_length hop commands xs h.0 in omega (arith, e)

  pub last_is : (redirects : ℕ) (hop : Hop) (xs : List Exchange) → FollowsAttempts links redirects hop commands xs → IsAttemptLog (last_attempt commands xs)
  last_is zero hop xs h = subst IsAttemptLog (sym (all_there xs (attempt_length hop commands xs h))) (hop, h)
  last_is (suc redirects) hop xs h =
      by (next_attempt links (suc redirects) (replies_in (take (size commands) xs))) h.1 (λ next k. (last_is redirects next (drop (size commands) xs) k, long redirects next (drop (size commands) xs) k))
    where
      rest : List Exchange
      rest = drop (size commands) xs

      parts : length xs ≡ size commands + length rest
      parts = front_length hop commands xs h.0

      only : rest ≡ [] → IsAttemptLog (last_attempt commands xs)
      only none =
          let front : take (size commands) xs ≡ xs = sym (append-nil (take (size commands) xs)) ∙ ap (λ ys. take (size commands) xs ++ ys) (sym none) ∙ take-append-drop (size commands) xs in
          let empty : length rest ≡ 0 = ap length none in
          let e = parts in
          subst IsAttemptLog (sym (all_there xs (omega (arith, e, empty)))) (hop, ap requests (sym front) ∙ h.0)

      behind : size commands ≤ length rest → last_attempt commands rest ≡ last_attempt commands xs
      behind some =
          let e = parts in
          let same : size commands + (length rest - size commands) ≡ length xs - size commands = omega (arith, e, some) in
          drop-drop (length rest - size commands) (size commands) xs ∙ ap (λ n. drop n xs) same

      by : (next : Next) → MatchNext next (rest ≡ []) (λ k. FollowsAttempts links redirects k commands rest)
          → ((k : Hop) → FollowsAttempts links redirects k commands rest → IsAttemptLog (last_attempt commands rest) × (size commands ≤ length rest)) → IsAttemptLog (last_attempt commands xs)
      by Stays m ih = only m
      by Lost m ih = only m
      by (Goes k) m ih = let r = ih k m in subst IsAttemptLog (behind r.1) r.0

-- ---- EXEC is its last request

pub record LastOne (xs : List Exchange) : Type 0 where
  pub last : Exchange
  pub is_last : last_of xs ≡ Some last
  pub alone : drop (length xs - 1) xs ≡ last ∷ []

last_one : (x : Exchange) (xs : List Exchange) → LastOne (x ∷ xs)
last_one x [] = record { last = x; is_last = refl; alone = refl }
last_one x (y ∷ xs) =
    let r = last_one y xs in
    let more : length (x ∷ y ∷ xs) - 1 ≡ suc (length (y ∷ xs) - 1) = omega arith in
    record { last = r.last; is_last = r.is_last; alone = ap (λ n. drop n (x ∷ y ∷ xs)) more ∙ r.alone }

last_map : {A B : Type 0} (f : A → B) (xs : List A) → last_of (map f xs) ≡ option_map f (last_of xs)
last_map f [] = refl
last_map f (x ∷ []) = refl
last_map f (x ∷ y ∷ xs) = last_map f (y ∷ xs)

last_exec : (node : Address) (q : Request) (commands : List (List (List ℕ))) → last_of (q ∷ map (without_asking node) (commands ++ exec ∷ [])) ≡ Some (without_asking node exec)
last_exec node q [] = refl
last_exec node q (c ∷ commands) = last_exec node (without_asking node c) commands

pub record ByExec (xs : List Exchange) : Type 0 where
  pub last : Exchange
  pub alone : drop (length xs - 1) xs ≡ last ∷ []
  pub args : last.request.args ≡ exec
  pub reply : exec_reply (replies_in xs) ≡ last.reply

pub by_exec : (hop : Hop) (commands : List (List (List ℕ))) (xs : List Exchange) → requests xs ≡ attempt hop commands → ByExec xs
by_exec hop commands [] e = cc
by_exec hop commands (x ∷ xs) e =
    let r = last_one x xs in
    let asked : Some r.last.request ≡ Some (without_asking hop.node exec) =
    ap (option_map (λ (x : Exchange). x.request)) (sym r.is_last) ∙ sym (last_map (λ (x : Exchange). x.request) (x ∷ xs)) ∙ ap last_of e ∙ last_exec hop.node _ commands in
    let same : r.last.request ≡ without_asking hop.node exec = cc in
    record {
      last = r.last;
      alone = r.alone;
      args = ap (λ (q : Request). q.args) same;
      reply = ap reply_there (last_map (λ (x : Exchange). x.reply) (x ∷ xs) ∙ ap (option_map (λ (x : Exchange). x.reply)) r.is_last);
    }

-- ---- where it answers, the transaction was done as one

as_one_by : (begun whole rest : Bool) → (whole || (begun && rest)) ≡ true → (begun || whole) ≡ true
as_one_by true whole rest e = refl
as_one_by false true rest e = refl
as_one_by false false rest e = cc

none_by : (b c : Bool) → (b && (false && c)) ≡ true → ⊥
none_by true c e = false≢true e
none_by false c e = false≢true e

nil_or_array : (b c : Bool) (tree : Tree) → (is_array (Some tree) || (b && (is_nil (Some tree) && c))) ≡ true → (is_array (Some tree) ≡ true) ⊎ (tree ≡ nil)
nil_or_array b c nil e = inr refl
nil_or_array b c (array ts) e = inl refl
nil_or_array b c (int n) e = absurd (none_by b c e)
nil_or_array b c (bulk t) e = absurd (none_by b c e)
nil_or_array b c (simple t) e = absurd (none_by b c e)
nil_or_array b c okay e = absurd (none_by b c e)
nil_or_array b c (map_tree ps) e = absurd (none_by b c e)
nil_or_array b c (attribute t ps) e = absurd (none_by b c e)
nil_or_array b c (set ts) e = absurd (none_by b c e)
nil_or_array b c (double t) e = absurd (none_by b c e)
nil_or_array b c (boolean t) e = absurd (none_by b c e)
nil_or_array b c (verbatim f t) e = absurd (none_by b c e)
nil_or_array b c (big_number t) e = absurd (none_by b c e)
nil_or_array b c (push k ts) e = absurd (none_by b c e)
nil_or_array b c (server_error err) e = absurd (none_by b c e)

nil_is_data : is_data_reply (Some nil) ≡ true
unfolding first_error
nil_is_data = refl

counted_array : (a d l : Bool) → (a ≡ true) ⊎ (d ≡ true) → (a || (d || l)) ≡ true
counted_array true d l h = refl
counted_array false true l h = refl
counted_array false false l (inl e) = cc
counted_array false false l (inr e) = cc

module _ (meaning : Meaning) (done : ℕ → Bool) (commands : List Command) where
  abbrev operation : List (List ℕ) → Operation
  operation args = task_operation (transaction_of commands) args

  by_exec_is : (args : List (List ℕ)) → args ≡ exec → operation args ≡ RunAsOne (args_of commands)
  by_exec_is args e = ap operation e

  -- its one request that counts is EXEC
  module _ (ys : List Exchange) (tree : Tree) (answered : attempt_answer (replies_in ys) ≡ Ok tree) (r : ByExec ys) where
    replied : r.last.reply ≡ Some tree
    replied = sym r.reply ∙ answered_by tree (replies_in ys) answered

    answers_is : answers (is_okay (multi_reply (replies_in ys))) (first_own_error (replies_in ys)) (exec_reply (replies_in ys)) ≡ true
    answers_is = by (answers (is_okay (multi_reply (replies_in ys))) (first_own_error (replies_in ys)) (exec_reply (replies_in ys))) answered
      where
        by : (b : Bool) → cond b (or_bad_reply (exec_reply (replies_in ys))) (Err (error_or_bad (first_own_error (replies_in ys)))) ≡ Ok tree → b ≡ true
        by true e = refl
        by false e = cc

    log_is : attempt_log ys ≡ r.last ∷ []
    log_is =
        ap (λ b. cond b (drop (length ys - 1) ys) (drop 1 ys)) (as_one_by (is_okay (multi_reply (replies_in ys))) (is_array (exec_reply (replies_in ys))) _ answers_is) ∙ r.alone

    is_data : (is_array (Some tree) ≡ true) ⊎ (is_data_reply (Some tree) ≡ true)
    is_data = elim (nil_or_array _ _ tree (ap (answers (is_okay (multi_reply (replies_in ys))) (first_own_error (replies_in ys))) (sym (answered_by tree (replies_in ys) answered)) ∙ answers_is)) as (λ _. (is_array (Some tree) ≡ true) ⊎ (is_data_reply (Some tree) ≡ true)) [
      | inl whole ↦ inl whole
      | inr none ↦ inr (ap (λ t. is_data_reply (Some t)) none ∙ nil_is_data)
    ]

    counted_one : counts done (operation r.last.request.args) r.last ≡ true
    counted_one =
        ap (λ o. counts done o r.last) (by_exec_is r.last.request.args r.args)
        ∙ counted_array (is_array r.last.reply) (is_data_reply r.last.reply) (is_unanswered r.last && done r.last.place)
        (subst (λ reply. (is_array reply ≡ true) ⊎ (is_data_reply reply ≡ true)) (sym replied) is_data)

    counted_is : counted_by done operation (attempt_log ys) ≡ r.last ∷ []
    counted_is = ap (counted_by done operation) log_is ∙ ap (λ b. cond b (r.last ∷ []) []) counted_one

    served_by : (s : List Step) → IsDoneBy meaning (RunAsOne (args_of commands)) r.last s → DoAll meaning (RunAsOne (args_of commands) ∷ []) (s ∷ []) (Reply tree ∷ [])
    served_by s d =
        let response : Reply tree ≡ d.response = subst (λ o. IfSome o (λ t. Reply t ≡ d.response)) replied d.reply in
        ((subst (DoOperation (RunAsOne (args_of commands)) s) (sym response) d.done, d.allowed), tt)

    pub as_one_served : (moves : List (List Step)) → HonestIn meaning done operation (attempt_log ys) moves → ServedIn meaning (RunAsOne (args_of commands) ∷ []) (Reply tree ∷ []) moves
    as_one_served moves honest =
        let c = counted_steps meaning done operation (attempt_log ys) honest.0 honest.1 in
        by c.0 (subst (λ zs. Pairwise (IsDoneAs meaning operation) zs c.0) counted_is c.1) (λ slot. c.2 slot ∙ honest.2 slot)
      where
        by : (ss : List (List Step)) → Pairwise (IsDoneAs meaning operation) (r.last ∷ []) ss → ((slot : ℕ) → pieces slot ss ≡ pieces slot moves) → ServedIn meaning (RunAsOne (args_of commands) ∷ []) (Reply tree ∷ []) moves
        by [] h same = absurd h
        by (s ∷ []) h same = (s ∷ [], served_by s (subst (λ o. IsDoneBy meaning o r.last s) (by_exec_is r.last.request.args r.args) h.0), same)
        by (s ∷ t ∷ ss) h same = absurd h.1

-- ---- the whole call

module _ (client : Client) (faults : Address → LinkFault) (meaning : Meaning) (moves : List (List Step)) (done : ℕ → Bool) (commands : List Command) (xs : List Exchange)
    (honest : HonestIn meaning done (task_operation (transaction_of commands)) (attempt_log (last_attempt (args_of commands) xs)) moves) where
  refused : (refusal : Refusal) → CallServed meaning done (Transaction commands) (Err refusal) xs moves
  refused refusal =
      let c = counted_steps meaning done (task_operation (transaction_of commands)) (attempt_log (last_attempt (args_of commands) xs)) honest.0 honest.1 in
      let k = responses_by meaning (task_operation (transaction_of commands)) _ c.0 c.1 in
      record { responses = k.0; served = (c.0, k.1, λ slot. c.2 slot ∙ honest.2 slot); answer_is = tt }

  abbrev Told : Result Tree Refusal → Option Tree → Result Answer Refusal
  Told reply last = unless (refusal_in reply) (or_bad_reply (option_and_then (answer_in (Transaction commands)) last))

  nothing_last : exec_reply (replies_in (last_attempt (args_of commands) [])) ≡ None
  nothing_last = none (length {A = Exchange} [] - size (args_of commands))
    where
      none : (n : ℕ) → exec_reply (replies_in (drop n [])) ≡ None
      none zero = refl
      none (suc n) = refl

  module _ (some : commands ≢ []) (tree : Tree) (is : sent_answer client faults (args_of commands) xs ≡ Ok tree) where
    abbrev ys : List Exchange
    ys = last_attempt (args_of commands) xs

    answered : attempt_answer (replies_in ys) ≡ Ok tree
    answered =
        let next = next_attempt client.links (suc client.settings.budget - attempt_count (args_of commands) xs) (replies_in ys) in
        not_lost tree next (attempt_answer (replies_in ys)) (not_refused tree (lost_refusal faults ys) (unless_lost next (attempt_answer (replies_in ys))) is)

    whole : (ds : List Dispatch) → AttemptAfterAttempt client (args_of commands) ds xs → ByExec ys
    whole [] none =
        let replied = answered_by tree (replies_in ys) answered in
        let nothing : exec_reply (replies_in ys) ≡ None = ap (λ zs. exec_reply (replies_in (last_attempt (args_of commands) zs))) none ∙ nothing_last in
        let bad = sym nothing ∙ replied in
        cc
    whole (d ∷ ds) follows = let l = last_is client.links (args_of commands) client.settings.budget (first_hop d) xs follows in by_exec l.0 (args_of commands) ys l.1

    sent_served : (ds : List Dispatch) → AttemptAfterAttempt client (args_of commands) ds xs → CallServed meaning done (Transaction commands) (Told (commands_answer client faults commands xs) (transaction_reply commands xs)) xs moves
    sent_served ds follows =
        let reply : commands_answer client faults commands xs ≡ Ok tree = sent_is client faults commands xs some ∙ is in
        let last : transaction_reply commands xs ≡ Some tree = reply_is commands xs some ∙ sent_replied tree client faults (args_of commands) xs is in
        let told : Told (commands_answer client faults commands xs) (transaction_reply commands xs) ≡ Ok (Value tree) = ap (λ r. Told r (transaction_reply commands xs)) reply ∙ ap (Told (Ok tree)) last in
        subst (λ a. CallServed meaning done (Transaction commands) a xs moves) (sym told)
        (record { responses = Reply tree ∷ []; served = as_one_served meaning done commands ys tree answered (whole ds follows) moves honest; answer_is = (tree, refl, refl) })

  some_served : commands ≢ [] → (ds : List Dispatch) → AttemptAfterAttempt client (args_of commands) ds xs → CallServed meaning done (Transaction commands) (Told (commands_answer client faults commands xs) (transaction_reply commands xs)) xs moves
  some_served some ds follows = by (sent_answer client faults (args_of commands) xs) refl
    where
      by : (r : Result Tree Refusal) → sent_answer client faults (args_of commands) xs ≡ r → CallServed meaning done (Transaction commands) (Told (commands_answer client faults commands xs) (transaction_reply commands xs)) xs moves
      by (Ok tree) e = sent_served some tree e ds follows
      by (Err refusal) e = subst (λ r. CallServed meaning done (Transaction commands) (Told r (transaction_reply commands xs)) xs moves) (sym (sent_is client faults commands xs some ∙ e)) (refused refusal)

-- no commands: nothing was sent, and one server answers them by an empty array
none_served : (client : Client) (faults : Address → LinkFault) (meaning : Meaning) (moves : List (List Step)) (done : ℕ → Bool) (xs : List Exchange) → xs ≡ []
    → HonestIn meaning done (task_operation (transaction_of [])) (attempt_log (last_attempt [] xs)) moves → CallServed meaning done (Transaction []) (Ok (Value (array no_trees))) xs moves
none_served client faults meaning moves done xs none honest =
    let empty : attempt_log (last_attempt [] xs) ≡ [] = ap (λ zs. attempt_log (last_attempt [] zs)) none in
    let h = nothing_done meaning moves done (task_operation (transaction_of [])) (subst (λ zs. HonestIn meaning done (task_operation (transaction_of [])) zs moves) empty honest) in
    record { responses = Reply (array no_trees) ∷ []; served = ([] ∷ [], (((tt, refl), tt), tt), h); answer_is = (array no_trees, refl, refl) }

pub transaction_served : (client : Client) (faults : Address → LinkFault) (meaning : Meaning) (moves : List (List Step)) (done : ℕ → Bool) (picks : List Address) (commands : List Command) (xs : List Exchange)
    → IsLegalCall client picks (Transaction commands) xs → HonestIn meaning done (task_operation (transaction_of commands)) (attempt_log (last_attempt (args_of commands) xs)) moves
    → CallServed meaning done (Transaction commands) (answer_of client picks faults (Transaction commands) xs) xs moves
transaction_served client faults meaning moves done picks [] xs legal honest = none_served client faults meaning moves done xs legal honest
transaction_served client faults meaning moves done picks (c ∷ cs) xs legal honest = by (plan client picks (Transaction (c ∷ cs))) legal
  where
    by : (o : Result (List Dispatch) Refusal) → MatchResult o (λ ds. AttemptAfterAttempt client (args_of (c ∷ cs)) ds xs) (λ refusal. xs ≡ [])
        → CallServed meaning done (Transaction (c ∷ cs)) (result_then o (λ ds. unless (refusal_in (commands_answer client faults (c ∷ cs) xs)) (or_bad_reply (option_and_then (answer_in (Transaction (c ∷ cs))) (transaction_reply (c ∷ cs) xs))))) xs moves
    by (Err refusal) none = refused client faults meaning moves done (c ∷ cs) xs honest refusal
    by (Ok ds) follows = some_served client faults meaning moves done (c ∷ cs) xs honest (λ e. cc) ds follows
