-- A pipeline is as good as its commands on one server.
use Rattle.std.proofs.Common.{◌≡◌, ℕ, suc, Bool, true, false, cond, ◌||◌, ◌==◌, List, [], ◌∷◌, ◌++◌, map, filter, take, drop, length, Option, Some, None, Result, Ok, Err, MatchResult, refl, sym, ap, ◌∙◌, subst, append-nil, take-append-drop, eqb-true}
use Rattle.std.specs.Prelude.{MatchBool, unwrap_or, is_none}
use Rattle.std.specs.List.{AllByRecursion, list_any}
use Rattle.std.proofs.lemmas.Bool.{false≢true}
use Rattle.resp_core.specs.Trees.{Tree, nil, ErrorText}
use Rattle.resp_core.specs.Errors.{Refusal}
use Rattle.resp_core.specs.Parts.{first_error}
use Rattle.resp_args.specs.Packed.{sent}
use Rattle.cluster_routing.specs.Combine.{array_of}
use Rattle.cluster_routing.specs.Lists.{Pairwise, among, IsDistinct, group_by_group, draw, without_front_of, front, rest}
use Rattle.cluster_routing.specs.Address.{Address, same_address}
use Rattle.cluster_routing.proofs.Recut.{all-filter}
use Rattle.cluster_routing.proofs.SplitWords.{filter-const}
use Rattle.cluster_calls.specs.OneServer.Keyspace.{Step}
use Rattle.cluster_calls.specs.Calls.Parts.{Part, unless}
use Rattle.cluster_calls.specs.OneServer.Meaning.{Meaning, DoCommand, DoAll}
use Rattle.cluster_calls.specs.Links.Log.{Exchange, requests, is_answered, is_unanswered, is_data_reply}
use Rattle.cluster_calls.specs.Links.Request.{Request}
use Rattle.cluster_calls.specs.Calls.Plan.{Client, Dispatch, dispatches}
use Rattle.cluster_calls.specs.Calls.Call.{Pipeline, Entry}
use Rattle.cluster_calls.specs.Links.Faults.{LinkFault, refusal_by_fault}
use Rattle.cluster_calls.specs.Calls.Legal.{IsLegalCall, NodeByNode, node_groups, nodes_in_use, direct}
use Rattle.cluster_calls.specs.Calls.Parts.{pipeline_parts, result_then}
use Rattle.cluster_calls.specs.OneServer.Laws.{GapsNameNoKey}
use Rattle.cluster_calls.specs.Calls.Answer.{Value, answer_of}
use Rattle.cluster_calls.specs.Calls.Replies.{args_slot, pipeline_reply, not_ignored, exchange_slot, with_slot, in_pipeline_order, reply_or_nil}
use Rattle.cluster_calls.specs.Calls.Refusals.{pipeline_refusal, errors_from, with_error}
use Rattle.cluster_calls.specs.OneServer.Honest.{is_counted}
use Rattle.cluster_calls.specs.OneServer.Operations.{RunCommand, Reply, run_each}
use Rattle.cluster_calls.proofs.ServerLaws.Pieces.{pieces, SamePieces, IsDoneAs, AccountsAs, HonestIn, ServedIn, pieces_at}
use Rattle.cluster_calls.proofs.ServerLaws.Regroup.{filter-group_by_group}
use Rattle.cluster_calls.proofs.ServerLaws.Distinct.{firsts_distinct, among-firsts}
use Rattle.cluster_calls.proofs.ServerLaws.Draw.{draw_each, drawn_same, draw-map, pairwise-nil}
use Rattle.cluster_calls.proofs.ServerLaws.Counted.{counted_steps, tree_answered, counted_answer}
use Rattle.cluster_calls.proofs.LinkLaws.Addresses.{same_true, same_refl}
use Rattle.cluster_calls.proofs.Lists.{all-append}
use Rattle.cluster_calls.proofs.LogLaws.Plans.{IsFor, dispatches_for, or_right}
use Rattle.cluster_calls.proofs.ServerLaws.PartCall.{filter_all, reply_is}
use Rattle.cluster_calls.proofs.ServerLaws.Calls.{CallServed, nothing_done}
use Rattle.cluster_calls.proofs.ServerLaws.Grouping.{filter-same, filter-map, pairwise-filter, pairwise-join, drawn_skip}
use Rattle.cluster_calls.proofs.LogLaws.PipePlans.{IsOneSlot, IsWholePart, pipeline_parts_are, primary_of, pipeline_nodes}

-- ---- the nodes that were reached

any-front : {X : Type 0} (p : X → Bool) (xs ys : List X) → list_any p (xs ++ ys) ≡ false → (list_any p xs ≡ false) × (list_any p ys ≡ false)
any-front p [] ys h = (refl, h)
any-front p (x ∷ xs) ys h = by (p x) h (λ g. any-front p xs ys g)
  where
    by : (b : Bool) → (b || list_any p (xs ++ ys)) ≡ false → (list_any p (xs ++ ys) ≡ false → (list_any p xs ≡ false) × (list_any p ys ≡ false)) → ((b || list_any p xs) ≡ false) × (list_any p ys ≡ false)
    by true h ih = absurd (false≢true (sym h))
    by false h ih = ih h

-- the exchange is the dispatch's request
abbrev pub IsSent : Dispatch → Exchange → Type 0
IsSent d x = x.request ≡ direct d

pub sent_pairs : (ds : List Dispatch) (xs : List Exchange) → requests xs ≡ map direct ds → Pairwise IsSent ds xs
sent_pairs [] [] e = tt
sent_pairs [] (x ∷ xs) e = cc
sent_pairs (d ∷ ds) [] e = cc
sent_pairs (d ∷ ds) (x ∷ xs) e = let a : x.request ≡ direct d = cc in let b : requests xs ≡ map direct ds = cc in (a, sent_pairs ds xs b)

-- the log is that of the first nodes, whole; of all of them where nothing was left unanswered
record Reached (ds : List Dispatch) (nodes : List Address) (xs : List Exchange) : Type 0 where
  first : List Address
  later : List Address
  all : nodes ≡ first ++ later
  pairs : Pairwise IsSent (group_by_group same_address (λ (d : Dispatch). d.node) first ds) xs
  whole : list_any is_unanswered xs ≡ false → later ≡ []

reached : (ds : List Dispatch) (nodes : List Address) (xs : List Exchange) → NodeByNode (map (λ node. filter (λ (d : Dispatch). same_address d.node node) ds) nodes) xs → Reached ds nodes xs
reached ds [] xs h = record { first = []; later = []; all = refl; pairs = subst (Pairwise IsSent []) (sym h) tt; whole = λ n. refl }
reached ds (node ∷ nodes) xs h = by (list_any is_unanswered own) refl h.1 (λ g. reached ds nodes rest_of g)
  where
    group : List Dispatch
    group = filter (λ (d : Dispatch). same_address d.node node) ds

    own : List Exchange
    own = take (length group) xs

    rest_of : List Exchange
    rest_of = drop (length group) xs

    both : own ++ rest_of ≡ xs
    both = take-append-drop (length group) xs

    by : (b : Bool) → list_any is_unanswered own ≡ b → MatchBool b (rest_of ≡ []) (NodeByNode (map (λ node. filter (λ (d : Dispatch). same_address d.node node) ds) nodes) rest_of)
        → (NodeByNode (map (λ node. filter (λ (d : Dispatch). same_address d.node node) ds) nodes) rest_of → Reached ds nodes rest_of) → Reached ds (node ∷ nodes) xs
    by true e r ih = record {
      first = node ∷ [];
      later = nodes;
      all = refl;
      pairs = subst (Pairwise IsSent (group ++ [])) both (pairwise-join IsSent group [] own rest_of (sent_pairs group own h.0) (subst (Pairwise IsSent []) (sym r) tt));
      whole = λ n. absurd (false≢true (sym (any-front is_unanswered own rest_of (subst (λ q. list_any is_unanswered q ≡ false) (sym both) n)).0 ∙ e));
    }
    by false e r ih =
        let i = ih r in
        record {
          first = node ∷ i.first;
          later = i.later;
          all = ap (λ q. node ∷ q) i.all;
          pairs = subst (Pairwise IsSent (group ++ group_by_group same_address (λ (d : Dispatch). d.node) i.first ds)) both (pairwise-join IsSent group _ own rest_of (sent_pairs group own h.0) i.pairs);
          whole = λ n. i.whole (any-front is_unanswered own rest_of (subst (λ q. list_any is_unanswered q ≡ false) (sym both) n)).1;
        }

-- ---- exchanges with their steps

zipped : (R : Exchange → List Step → Type 0) (xs : List Exchange) (ss : List (List Step)) → Pairwise R xs ss
    → (zs : List (Exchange × List Step)) × (map (λ (z : Exchange × List Step). z.0) zs ≡ xs) × (map (λ (z : Exchange × List Step). z.1) zs ≡ ss) × AllByRecursion (λ (z : Exchange × List Step). R z.0 z.1) zs
zipped R [] [] h = ([], refl, refl, tt)
zipped R [] (s ∷ ss) h = absurd h
zipped R (x ∷ xs) [] h = absurd h
zipped R (x ∷ xs) (s ∷ ss) h =
    let r = zipped R xs ss h.1 in
    ((x, s) ∷ r.0, ap (λ q. x ∷ q) r.1, ap (λ q. s ∷ q) r.2, (h.0, r.3))

-- what a dispatch of a pipeline is
pub record IsPipeDispatch (client : Client) (d : Dispatch) : Type 0 where
  pub slot : args_slot d.args ≡ (args_slot d.args)
  pub one : IsOneSlot d.args
  pub node : d.node ≡ primary_of client (args_slot d.args)

-- an exchange of the dispatch, with the steps that account for it, and a fact of the caller's
record Matches (meaning : Meaning) (done : ℕ → Bool) (Q : Exchange → Type 0) (d : Dispatch) (z : Exchange × List Step) : Type 0 where
  args : z.0.request.args ≡ d.args
  slot : exchange_slot z.0 ≡ (args_slot d.args)
  one : IsOneSlot d.args
  accounts : AccountsAs meaning done RunCommand z.0 z.1
  fact : Q z.0

matched : (client : Client) (meaning : Meaning) (done : ℕ → Bool) (Q : Exchange → Type 0) (ds : List Dispatch) (zs : List (Exchange × List Step)) → AllByRecursion (IsPipeDispatch client) ds
    → Pairwise IsSent ds (map (λ (z : Exchange × List Step). z.0) zs) → AllByRecursion (λ (z : Exchange × List Step). AccountsAs meaning done RunCommand z.0 z.1) zs → AllByRecursion Q (map (λ (z : Exchange × List Step). z.0) zs) → Pairwise (Matches meaning done Q) ds zs
matched client meaning done Q [] [] f p a q = tt
matched client meaning done Q [] (z ∷ zs) f p a q = absurd p
matched client meaning done Q (d ∷ ds) [] f p a q = absurd p
matched client meaning done Q (d ∷ ds) (z ∷ zs) f p a q =
    let e = ap (λ (r : Request). r.args) p.0 in (
      record { args = e; slot = ap args_slot e ∙ f.0.slot; one = f.0.one; accounts = a.0; fact = q.0 },
      matched client meaning done Q ds zs f.1 p.1 a.1 q.1,
    )

steps_on : (meaning : Meaning) (done : ℕ → Bool) (Q : Exchange → Type 0) (ds : List Dispatch) (zs : List (Exchange × List Step)) → Pairwise (Matches meaning done Q) ds zs
    → AllByRecursion (λ (z : Exchange × List Step). AllByRecursion (λ (x : Step). x.slot ≡ exchange_slot z.0) z.1) zs
steps_on meaning done Q [] [] h = tt
steps_on meaning done Q [] (z ∷ zs) h = absurd h
steps_on meaning done Q (d ∷ ds) [] h = absurd h
steps_on meaning done Q (d ∷ ds) (z ∷ zs) h = (by (is_counted done z.0) h.0.accounts, steps_on meaning done Q ds zs h.1)
  where
    by : (b : Bool) → MatchBool b (IsDoneAs meaning RunCommand z.0 z.1) (z.1 ≡ []) → AllByRecursion (λ (x : Step). x.slot ≡ exchange_slot z.0) z.1
    by true a = subst (λ q. AllByRecursion (λ (x : Step). x.slot ≡ args_slot q) z.1) (sym h.0.args) (h.0.one z.1 a.done.0 (subst (λ q. DoCommand q z.1 a.done.0) h.0.args a.done.2))
    by false a = subst (AllByRecursion (λ (x : Step). x.slot ≡ exchange_slot z.0)) (sym a) tt

accounts_of : (meaning : Meaning) (done : ℕ → Bool) (Q : Exchange → Type 0) (ds : List Dispatch) (zs : List (Exchange × List Step)) → Pairwise (Matches meaning done Q) ds zs
    → Pairwise (AccountsAs meaning done RunCommand) (map (λ (z : Exchange × List Step). z.0) zs) (map (λ (z : Exchange × List Step). z.1) zs)
accounts_of meaning done Q [] [] h = tt
accounts_of meaning done Q [] (z ∷ zs) h = absurd h
accounts_of meaning done Q (d ∷ ds) [] h = absurd h
accounts_of meaning done Q (d ∷ ds) (z ∷ zs) h = (h.0.accounts, accounts_of meaning done Q ds zs h.1)

facts_of : (meaning : Meaning) (done : ℕ → Bool) (Q : Exchange → Type 0) (ds : List Dispatch) (zs : List (Exchange × List Step)) → Pairwise (Matches meaning done Q) ds zs
    → (map (λ (x : Exchange). x.request.args) (map (λ (z : Exchange × List Step). z.0) zs) ≡ map (λ (d : Dispatch). d.args) ds) × AllByRecursion Q (map (λ (z : Exchange × List Step). z.0) zs)
facts_of meaning done Q [] [] h = (refl, tt)
facts_of meaning done Q [] (z ∷ zs) h = absurd h
facts_of meaning done Q (d ∷ ds) [] h = absurd h
facts_of meaning done Q (d ∷ ds) (z ∷ zs) h =
    let r = facts_of meaning done Q ds zs h.1 in
    (ap (λ a. a ∷ map (λ (x : Exchange). x.request.args) (map (λ (z : Exchange × List Step). z.0) zs)) h.0.args ∙ ap (λ q. d.args ∷ q) r.0, (h.0.fact, r.1))

among-front : {A : Type 0} (eq : A → A → Bool) (k : A) (xs ys : List A) → among eq k (xs ++ ys) ≡ false → among eq k xs ≡ false
among-front eq k xs ys h = (any-front (λ x. eq k x) xs ys h).0

distinct-front : {A : Type 0} (eq : A → A → Bool) (xs ys : List A) → IsDistinct eq (xs ++ ys) → IsDistinct eq xs
distinct-front eq [] ys h = tt
distinct-front eq (x ∷ xs) ys h = (among-front eq x xs ys h.0, distinct-front eq xs ys h.1)

-- the dispatch is for the entry
pub record IsEntryDispatch (e : Entry) (d : Dispatch) : Type 0 where
  pub args : d.args ≡ sent e.command
  pub slot : (args_slot d.args) ≡ args_slot (sent e.command)

module _ (client : Client) (meaning : Meaning) (done : ℕ → Bool) (Q : Exchange → Type 0) (entries : List Entry) (ds : List Dispatch) (facts : AllByRecursion (IsPipeDispatch client) ds) (for_each : Pairwise IsEntryDispatch entries ds)
    (first : List Address) (distinct : IsDistinct same_address first) (zs : List (Exchange × List Step)) (pairs : Pairwise (Matches meaning done Q) (group_by_group same_address (λ (d : Dispatch). d.node) first ds) zs) where
  going : List Dispatch
  going = filter (λ (d : Dispatch). among same_address (primary_of client (args_slot d.args)) first) ds

  queue : ℕ → List (Exchange × List Step)
  queue s = filter (λ (z : Exchange × List Step). s == exchange_slot z.0) zs

  ws : List (Exchange × List Step)
  unfolding going queue
  ws = draw (map (λ (d : Dispatch). (args_slot d.args)) going) queue

  by_primary : (gs : List Address) → group_by_group same_address (λ (d : Dispatch). d.node) gs ds ≡ group_by_group same_address (λ (d : Dispatch). primary_of client (args_slot d.args)) gs ds
  by_primary [] = refl
  by_primary (g ∷ gs) = ap (λ q. q ++ group_by_group same_address (λ (d : Dispatch). d.node) gs ds) (filter-same _ _ ds (same ds facts)) ∙ ap (λ q. filter (λ (d : Dispatch). same_address (primary_of client (args_slot d.args)) g) ds ++ q) (by_primary gs)
    where
      same : (es : List Dispatch) → AllByRecursion (IsPipeDispatch client) es → AllByRecursion (λ (d : Dispatch). same_address d.node g ≡ same_address (primary_of client (args_slot d.args)) g) es
      same [] h = tt
      same (e ∷ es) h = (ap (λ a. same_address a g) h.0.node, same es h.1)

  -- at a slot, what was going
  at_slot : (s : ℕ) → filter (λ (d : Dispatch). s == (args_slot d.args)) (group_by_group same_address (λ (d : Dispatch). d.node) first ds) ≡ cond (among same_address (primary_of client s) first) (filter (λ (d : Dispatch). s == (args_slot d.args)) ds) []
  at_slot s =
      ap (filter (λ (d : Dispatch). s == (args_slot d.args))) (by_primary first)
      ∙ filter-group_by_group same_address same_true (λ (d : Dispatch). primary_of client (args_slot d.args)) (λ (d : Dispatch). s == (args_slot d.args)) (primary_of client s) (λ d e. ap (primary_of client) (sym (eqb-true s (args_slot d.args) e))) first ds distinct

  sent_at : (s : ℕ) → filter (λ (d : Dispatch). s == (args_slot d.args)) going ≡ cond (among same_address (primary_of client s) first) (filter (λ (d : Dispatch). s == (args_slot d.args)) ds) []
  unfolding going
  sent_at s = filter-const (λ (d : Dispatch). s == (args_slot d.args)) (λ (d : Dispatch). among same_address (primary_of client (args_slot d.args)) first) (among same_address (primary_of client s) first)
      (λ d e. ap (λ n. among same_address (primary_of client n) first) (sym (eqb-true s (args_slot d.args) e))) ds

  slotwise : (s : ℕ) → Pairwise (Matches meaning done Q) (filter (λ (d : Dispatch). s == (args_slot d.args)) going) (queue s)
  unfolding queue
  slotwise s =
      subst (λ q. Pairwise (Matches meaning done Q) q (queue s)) (at_slot s ∙ sym (sent_at s))
      (pairwise-filter (Matches meaning done Q) (λ (d : Dispatch). s == (args_slot d.args)) (λ (z : Exchange × List Step). s == exchange_slot z.0) (λ d z m. ap (λ n. s == n) (sym m.slot)) _ zs pairs)

  in_order : Pairwise (Matches meaning done Q) going ws × ((s : ℕ) → filter (λ (z : Exchange × List Step). s == exchange_slot z.0) ws ≡ queue s)
  unfolding ws
  in_order = draw_each (Matches meaning done Q) (λ (d : Dispatch). (args_slot d.args)) (λ (z : Exchange × List Step). exchange_slot z.0) (λ d z m. m.slot) going queue slotwise

  slots_are : (es : List Entry) (ts : List Dispatch) → Pairwise IsEntryDispatch es ts → map (λ (e : Entry). args_slot (sent e.command)) es ≡ map (λ (d : Dispatch). (args_slot d.args)) ts
  slots_are [] [] h = refl
  slots_are [] (t ∷ ts) h = absurd h
  slots_are (e ∷ es) [] h = absurd h
  slots_are (e ∷ es) (t ∷ ts) h = ap (λ n. n ∷ map (λ (e : Entry). args_slot (sent e.command)) es) (sym h.0.slot) ∙ ap (λ q. (args_slot t.args) ∷ q) (slots_are es ts h.1)

  -- they are the exchanges in pipeline order
  order_is : map (λ (z : Exchange × List Step). z.0) ws ≡ in_pipeline_order entries (map (λ (z : Exchange × List Step). z.0) zs)
  unfolding ws queue going
  order_is =
      sym (ap (λ ks. draw ks exchanges_at) (slots_are entries ds for_each)
      ∙ drawn_skip (λ (d : Dispatch). (args_slot d.args)) (λ (d : Dispatch). among same_address (primary_of client (args_slot d.args)) first) ds exchanges_at
      (λ d e. sym (at_queue (args_slot d.args)) ∙ ap (map (λ (z : Exchange × List Step). z.0)) (none d e))
      ∙ drawn_same (map (λ (d : Dispatch). (args_slot d.args)) going) exchanges_at (λ s. map (λ (z : Exchange × List Step). z.0) (queue s)) (λ s. sym (at_queue s))
      ∙ draw-map (λ (z : Exchange × List Step). z.0) (map (λ (d : Dispatch). (args_slot d.args)) going) queue)
    where
      exchanges_at : ℕ → List Exchange
      exchanges_at s = with_slot s (map (λ (z : Exchange × List Step). z.0) zs)

      at_queue : (s : ℕ) → map (λ (z : Exchange × List Step). z.0) (queue s) ≡ exchanges_at s
      at_queue s = filter-map (λ (z : Exchange × List Step). z.0) (λ x. s == exchange_slot x) zs

      none : (d : Dispatch) → among same_address (primary_of client (args_slot d.args)) first ≡ false → queue (args_slot d.args) ≡ []
      none d e = pairwise-nil (Matches meaning done Q) (queue (args_slot d.args)) (subst (λ q. Pairwise (Matches meaning done Q) q (queue (args_slot d.args))) (sent_at (args_slot d.args) ∙ ap (λ b. cond b (filter (λ (u : Dispatch). (args_slot d.args) == (args_slot u.args)) ds) []) e) (slotwise (args_slot d.args)))

  -- and account for the same pieces
  honest_order : (moves : List (List Step)) → SamePieces (map (λ (z : Exchange × List Step). z.1) zs) moves → HonestIn meaning done RunCommand (map (λ (z : Exchange × List Step). z.0) ws) moves
  unfolding queue
  honest_order moves c = (
    map (λ (z : Exchange × List Step). z.1) ws,
    accounts_of meaning done Q going ws in_order.0,
    λ s. pieces_at (λ (z : Exchange × List Step). exchange_slot z.0) (λ (z : Exchange × List Step). z.1) s ws (steps_on meaning done Q going ws in_order.0)
        ∙ ap (λ q. pieces s (map (λ (z : Exchange × List Step). z.1) q)) (in_order.1 s)
        ∙ sym (pieces_at (λ (z : Exchange × List Step). exchange_slot z.0) (λ (z : Exchange × List Step). z.1) s zs (steps_on meaning done Q _ zs pairs)) ∙ c s,
  )

-- ---- the call

counted_trees : (meaning : Meaning) (cs : List Exchange) (ts : List (List Step)) → Pairwise (IsDoneAs meaning RunCommand) cs ts
    → (trees : List Tree) × DoAll meaning (run_each (map (λ (x : Exchange). x.request.args) cs)) ts (map Reply trees) × (AllByRecursion (λ x. is_answered x ≡ true) cs → map reply_or_nil cs ≡ trees)
counted_trees meaning [] [] h = ([], tt, λ a. refl)
counted_trees meaning [] (t ∷ ts) h = absurd h
counted_trees meaning (c ∷ cs) [] h = absurd h
counted_trees meaning (c ∷ cs) (t ∷ ts) h =
    let r = counted_trees meaning cs ts h.1 in
    (h.0.done.0 ∷ r.0, (((h.0.done.0, refl, h.0.done.2), h.0.allowed), r.1), λ a. ap (λ q. q ∷ map reply_or_nil cs) (reply_is meaning c t a.0 h.0) ∙ ap (λ q. h.0.done.0 ∷ q) (r.2 a.1))

pub drawn_none : (ks : List ℕ) (f : ℕ → List Exchange) → ((s : ℕ) → f s ≡ []) → draw ks f ≡ []
drawn_none [] f h = refl
drawn_none (k ∷ ks) f h = ap (λ q. front q ++ draw ks (without_front_of k f)) (h k) ∙ drawn_none ks (without_front_of k f) (λ s. by s (s == k))
  where
    by : (s : ℕ) (b : Bool) → cond b (rest (f s)) (f s) ≡ []
    by s true = ap rest (h s)
    by s false = h s

pub dispatch_facts : (client : Client) (entries : List Entry) (parts : List Part) (ds : List Dispatch) → Pairwise IsWholePart entries parts → Pairwise IsFor parts ds → AllByRecursion (λ (d : Dispatch). d.node ≡ primary_of client (args_slot d.args)) ds
    → AllByRecursion (IsPipeDispatch client) ds × Pairwise IsEntryDispatch entries ds
dispatch_facts client [] [] [] w f n = (tt, tt)
dispatch_facts client [] [] (d ∷ ds) w f n = absurd f
dispatch_facts client [] (p ∷ ps) ds w f n = absurd w
dispatch_facts client (e ∷ es) [] ds w f n = absurd w
dispatch_facts client (e ∷ es) (p ∷ ps) [] w f n = absurd f
dispatch_facts client (e ∷ es) (p ∷ ps) (d ∷ ds) w f n =
    let r = dispatch_facts client es ps ds w.1 f.1 n.1 in
    let args : d.args ≡ sent e.command = f.0 ∙ w.0.args in
    ((record { slot = refl; one = subst IsOneSlot (sym args) w.0.one; node = n.0 }, r.0), (record { args = args; slot = ap args_slot args }, r.1))

-- the log in pipeline order
pub record InOrder (meaning : Meaning) (done : ℕ → Bool) (Q : Exchange → Type 0) (entries : List Entry) (going : List Dispatch) (moves : List (List Step)) (xs : List Exchange) : Type 0 where
  pub honest : HonestIn meaning done RunCommand (in_pipeline_order entries xs) moves
  pub args : map (λ (x : Exchange). x.request.args) (in_pipeline_order entries xs) ≡ map (λ (d : Dispatch). d.args) going
  pub facts : AllByRecursion Q (in_pipeline_order entries xs)

pub log_in_order : (client : Client) (meaning : Meaning) (done : ℕ → Bool) (Q : Exchange → Type 0) (entries : List Entry) (ds : List Dispatch) → AllByRecursion (IsPipeDispatch client) ds → Pairwise IsEntryDispatch entries ds
    → (first : List Address) → IsDistinct same_address first → (xs : List Exchange) → Pairwise IsSent (group_by_group same_address (λ (d : Dispatch). d.node) first ds) xs → AllByRecursion Q xs
    → (moves : List (List Step)) → HonestIn meaning done RunCommand xs moves
    → InOrder meaning done Q entries (filter (λ (d : Dispatch). among same_address (primary_of client (args_slot d.args)) first) ds) moves xs
unfolding going
log_in_order client meaning done Q entries ds facts for_each first distinct xs pairs all moves honest =
    let z = zipped (AccountsAs meaning done RunCommand) xs honest.0 honest.1 in
    let grouped_facts = all_grouped first in
    let m = matched client meaning done Q (group_by_group same_address (λ (d : Dispatch). d.node) first ds) z.0 grouped_facts (subst (Pairwise IsSent (group_by_group same_address (λ (d : Dispatch). d.node) first ds)) (sym z.1) pairs) z.3 (subst (AllByRecursion Q) (sym z.1) all) in
    let w = ws client meaning done Q entries ds facts for_each first distinct z.0 m in
    let s = going client meaning done Q entries ds facts for_each first distinct z.0 m in
    let order : map (λ (z : Exchange × List Step). z.0) w ≡ in_pipeline_order entries xs = order_is client meaning done Q entries ds facts for_each first distinct z.0 m ∙ ap (in_pipeline_order entries) z.1 in
    let f = facts_of meaning done Q s w (in_order client meaning done Q entries ds facts for_each first distinct z.0 m).0 in
    let h = honest_order client meaning done Q entries ds facts for_each first distinct z.0 m moves (subst (λ q. SamePieces q moves) (sym z.2) honest.2) in
    record {
      honest = subst (λ q. HonestIn meaning done RunCommand q moves) order h;
      args = subst (λ q. map (λ (x : Exchange). x.request.args) q ≡ map (λ (d : Dispatch). d.args) s) order f.0;
      facts = subst (AllByRecursion Q) order f.1;
    }
  where
    all_grouped : (gs : List Address) → AllByRecursion (IsPipeDispatch client) (group_by_group same_address (λ (d : Dispatch). d.node) gs ds)
    all_grouped [] = tt
    all_grouped (g ∷ gs) = all-append (IsPipeDispatch client) (filter (λ (d : Dispatch). same_address d.node g) ds) _ (all-filter (IsPipeDispatch client) (λ (d : Dispatch). same_address d.node g) ds facts) (all_grouped gs)

-- a pipeline that is not refused has no unanswered request and no error
fine_pipeline : (faults : Address → LinkFault) (xs : List Exchange) (errors : List (ℕ × ErrorText)) → pipeline_refusal faults xs errors ≡ None → (list_any is_unanswered xs ≡ false) × (errors ≡ []) × AllByRecursion (λ x. is_unanswered x ≡ false) xs
fine_pipeline faults [] [] e = (refl, refl, tt)
fine_pipeline faults [] (err ∷ errs) e = cc
fine_pipeline faults (x ∷ xs) errors e = by (is_unanswered x) refl e (λ f. fine_pipeline faults xs errors f)
  where
    by : (b : Bool) → is_unanswered x ≡ b → cond b (Some (refusal_by_fault (faults x.request.node))) (pipeline_refusal faults xs errors) ≡ None → (pipeline_refusal faults xs errors ≡ None → (list_any is_unanswered xs ≡ false) × (errors ≡ []) × AllByRecursion (λ x. is_unanswered x ≡ false) xs)
        → ((is_unanswered x || list_any is_unanswered xs) ≡ false) × (errors ≡ []) × ((is_unanswered x ≡ false) × AllByRecursion (λ x. is_unanswered x ≡ false) xs)
    by true h f ih = cc
    by false h f ih = let r = ih f in (ap (λ b. b || list_any is_unanswered xs) h ∙ r.0, r.1, (h, r.2))

no_errors_answered : (position : ℕ) (ys : List Exchange) → errors_from position ys ≡ [] → AllByRecursion (λ x. is_unanswered x ≡ false) ys → AllByRecursion (λ x. is_answered x ≡ true) ys
no_errors_answered position [] e h = tt
no_errors_answered position (y ∷ ys) e h = by (first_error (reply_or_nil y)) refl e (λ f. no_errors_answered (suc position) ys f h.1)
  where
    replied : (r : Option Tree) → is_none r ≡ false → first_error (unwrap_or r nil) ≡ None → is_data_reply r ≡ true
    replied None n f = absurd (false≢true (sym n))
    replied (Some t) n f = tree_answered t f

    by : (o : Option ErrorText) → first_error (reply_or_nil y) ≡ o → with_error position o (errors_from (suc position) ys) ≡ [] → (errors_from (suc position) ys ≡ [] → AllByRecursion (λ x. is_answered x ≡ true) ys) → (is_answered y ≡ true) × AllByRecursion (λ x. is_answered x ≡ true) ys
    by None g e ih = (replied y.reply h.0 g, ih e)
    by (Some err) g e ih = cc

nodes_reached : (client : Client) (ds es : List Dispatch) → AllByRecursion (IsPipeDispatch client) es → ((a : Address) → among same_address a (map (λ (d : Dispatch). d.node) es) ≡ true → among same_address a (nodes_in_use ds) ≡ true)
    → AllByRecursion (λ (d : Dispatch). among same_address (primary_of client (args_slot d.args)) (nodes_in_use ds) ≡ true) es
nodes_reached client ds [] h k = tt
nodes_reached client ds (e ∷ es) h k = (
  ap (λ a. among same_address a (nodes_in_use ds)) (sym h.0.node) ∙ k e.node (ap (λ b. b || among same_address e.node (map (λ (d : Dispatch). d.node) es)) (same_refl e.node)),
  nodes_reached client ds es h.1 (λ a g. k a (or_right (same_address a e.node) g)),
)

entry_args : (es : List Entry) (ds : List Dispatch) → Pairwise IsEntryDispatch es ds → map (λ (d : Dispatch). d.args) ds ≡ map (λ (e : Entry). sent e.command) es
entry_args [] [] h = refl
entry_args [] (d ∷ ds) h = absurd h
entry_args (e ∷ es) [] h = absurd h
entry_args (e ∷ es) (d ∷ ds) h = ap (λ a. a ∷ map (λ (d : Dispatch). d.args) ds) h.0.args ∙ ap (λ q. sent e.command ∷ q) (entry_args es ds h.1)

pub all_true : (xs : List Exchange) → AllByRecursion (λ x. Unit {0}) xs
all_true [] = tt
all_true (x ∷ xs) = (tt, all_true xs)

pub all_counted : (done : ℕ → Bool) (xs : List Exchange) → AllByRecursion (λ x. is_answered x ≡ true) xs → AllByRecursion (λ x. is_counted done x ≡ true) xs
all_counted done [] h = tt
all_counted done (x ∷ xs) h = (counted_answer done x h.0, all_counted done xs h.1)

pub pipeline_served : (client : Client) (faults : Address → LinkFault) (meaning : Meaning) (moves : List (List Step)) (done : ℕ → Bool) (picks : List Address) (entries : List Entry) (xs : List Exchange) → GapsNameNoKey
    → IsLegalCall client picks (Pipeline entries) xs → HonestIn meaning done RunCommand xs moves → CallServed meaning done (Pipeline entries) (answer_of client picks faults (Pipeline entries) xs) xs moves
pipeline_served client faults meaning moves done picks entries xs gaps legal honest = at_parts (pipeline_parts 0 entries) refl legal
  where
    Served : Result (List Dispatch) Refusal → Option Refusal → Type 0
    Served o s = CallServed meaning done (Pipeline entries) (result_then o (λ ds. unless s (Ok (Value (pipeline_reply entries xs))))) xs moves

    unsent : xs ≡ [] → (r : Refusal) (s : Option Refusal) → Served (Err r) s
    unsent e r s =
        let nothing : in_pipeline_order entries xs ≡ [] = ap (in_pipeline_order entries) e ∙ drawn_none (map (λ (x : Entry). args_slot (sent x.command)) entries) (λ slot. with_slot slot []) (λ n. refl) in
        record {
          responses = [];
          served = subst (λ q. ServedIn meaning (run_each (map (λ (x : Exchange). x.request.args) (filter (is_counted done) q))) [] moves) (sym nothing) ([], tt, nothing_done meaning moves done RunCommand (subst (λ q. HonestIn meaning done RunCommand q moves) e honest));
          answer_is = tt;
        }

    at_refusal : (ds : List Dispatch) → AllByRecursion (IsPipeDispatch client) ds × Pairwise IsEntryDispatch entries ds → Reached ds (nodes_in_use ds) xs → (s : Option Refusal) → pipeline_refusal faults xs (errors_from 0 (in_pipeline_order entries xs)) ≡ s → Served (Ok ds) s
    at_refusal ds f r (Some refusal) e =
        let distinct = distinct-front same_address r.first r.later (subst (IsDistinct same_address) r.all (firsts_distinct same_address (map (λ (d : Dispatch). d.node) ds))) in
        let o = log_in_order client meaning done (λ x. Unit {0}) entries ds f.0 f.1 r.first distinct xs r.pairs (all_true xs) moves honest in
        let c = counted_steps meaning done RunCommand (in_pipeline_order entries xs) o.honest.0 o.honest.1 in
        let t = counted_trees meaning (filter (is_counted done) (in_pipeline_order entries xs)) c.0 c.1 in
        record { responses = map Reply t.0; served = (c.0, t.1, λ slot. c.2 slot ∙ o.honest.2 slot); answer_is = tt }
    at_refusal ds f r None e =
        let fine = fine_pipeline faults xs (errors_from 0 (in_pipeline_order entries xs)) e in
        let distinct = distinct-front same_address r.first r.later (subst (IsDistinct same_address) r.all (firsts_distinct same_address (map (λ (d : Dispatch). d.node) ds))) in
        let o = log_in_order client meaning done (λ x. is_unanswered x ≡ false) entries ds f.0 f.1 r.first distinct xs r.pairs fine.2 moves honest in
        let ys = in_pipeline_order entries xs in
        let answered = no_errors_answered 0 ys fine.1 o.facts in
        let whole : filter (is_counted done) ys ≡ ys = filter_all (is_counted done) ys (all_counted done ys answered) in
        let c = counted_steps meaning done RunCommand ys o.honest.0 o.honest.1 in
        let t = counted_trees meaning ys c.0 (subst (λ q. Pairwise (IsDoneAs meaning RunCommand) q c.0) whole c.1) in
        let first_is : nodes_in_use ds ≡ r.first = r.all ∙ ap (λ q. r.first ++ q) (r.whole fine.0) ∙ append-nil r.first in
        let sent_all : filter (λ (d : Dispatch). among same_address (primary_of client (args_slot d.args)) r.first) ds ≡ ds =
        ap (λ q. filter (λ (d : Dispatch). among same_address (primary_of client (args_slot d.args)) q) ds) (sym first_is)
        ∙ filter_all (λ (d : Dispatch). among same_address (primary_of client (args_slot d.args)) (nodes_in_use ds)) ds (nodes_reached client ds ds f.0 (λ a g. among-firsts same_address same_true a (map (λ (d : Dispatch). d.node) ds) g)) in
        let args : map (λ (x : Exchange). x.request.args) ys ≡ map (λ (x : Entry). sent x.command) entries = o.args ∙ ap (map (λ (d : Dispatch). d.args)) sent_all ∙ entry_args entries ds f.1 in
        record {
          responses = map Reply t.0;
          served = subst (λ q. ServedIn meaning (run_each q) (map Reply t.0) moves) args (c.0, t.1, λ slot. c.2 slot ∙ o.honest.2 slot);
          answer_is = (t.0, refl, ap (λ q. Value (array_of (not_ignored entries q))) (t.2 answered));
        }

    at_parts : (o : Result (List Part) Refusal) → pipeline_parts 0 entries ≡ o → MatchResult (result_then o (λ parts. result_then (dispatches client picks parts) (λ ds. Ok ds))) (λ ds. NodeByNode (node_groups ds) xs) (λ refusal. xs ≡ [])
        → Served (result_then o (λ parts. result_then (dispatches client picks parts) (λ ds. Ok ds))) (pipeline_refusal faults xs (errors_from 0 (in_pipeline_order entries xs)))
    at_parts (Err r) p l = unsent l r (pipeline_refusal faults xs (errors_from 0 (in_pipeline_order entries xs)))
    at_parts (Ok parts) p l = at_sent (dispatches client picks parts) refl l
      where
        at_sent : (o : Result (List Dispatch) Refusal) → dispatches client picks parts ≡ o → MatchResult (result_then o (λ ds. Ok ds)) (λ ds. NodeByNode (node_groups ds) xs) (λ refusal. xs ≡ [])
            → Served (result_then o (λ ds. Ok ds)) (pipeline_refusal faults xs (errors_from 0 (in_pipeline_order entries xs)))
        at_sent (Err r) d l = unsent l r (pipeline_refusal faults xs (errors_from 0 (in_pipeline_order entries xs)))
        at_sent (Ok ds) d l =
            let w = pipeline_parts_are gaps entries 0 parts p in
            at_refusal ds (dispatch_facts client entries parts ds w (dispatches_for client parts picks ds d) (pipeline_nodes client entries parts picks ds w d))
            (reached ds (nodes_in_use ds) xs l) (pipeline_refusal faults xs (errors_from 0 (in_pipeline_order entries xs))) refl
