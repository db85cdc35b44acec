-- The replies determine the log.
use Rattle.std.proofs.Common.{◌≡◌, ℕ, suc, ◌-◌, ◌||◌, Bool, true, false, List, [], ◌∷◌, map, length, take, drop, Result, Ok, Err, MatchResult, refl, sym, ap, ◌∙◌, subst, ◌+◌, ◌++◌, zero, arith}
use Rattle.std.specs.Prelude.{MatchBool}
use Rattle.std.specs.List.{list_any}
use Rattle.std.proofs.lemmas.List.{take-append-drop}
use Rattle.resp_core.specs.Trees.{Tree}
use Rattle.resp_core.specs.Errors.{Refusal}
use Rattle.cluster_routing.specs.Address.{Address}
use Rattle.cluster_routing.specs.Lists.{concat}
use Rattle.cluster_calls.specs.Links.Request.{Request}
use Rattle.cluster_calls.specs.Links.Log.{Exchange, requests, exchanges, left_after, reply_at, is_answered, is_unanswered, left_after_all}
use Rattle.cluster_calls.specs.Calls.Call.{Call}
use Rattle.cluster_calls.specs.Calls.Task.{Task, slot_map_of, one_command, pipeline_of, positions_of, several_nodes, one_node, read_of, task_of, transaction_of}
use Rattle.cluster_calls.specs.Calls.Plan.{Client, Dispatch, plan}
use Rattle.cluster_calls.specs.Calls.Redirects.{Hop, Next, Stays, Lost, Goes, next_of, MatchNext, FollowsRedirects}
use Rattle.cluster_calls.specs.Calls.Legal.{first_hop, direct, PartByPart, NodeByNode, node_groups, AreMade, IsLegalCall, AttemptAfterAttempt}
use Rattle.cluster_calls.specs.Calls.OneSlot.{args_of}
use Rattle.cluster_calls.specs.Calls.Transactions.{FollowsAttempts, attempt, next_attempt, replies_in, size}
use Rattle.cluster_calls.proofs.LogLaws.Attempts.{requests_length, size_of}
use Rattle.cluster_calls.proofs.LogLaws.Sizes.{take_all, drop_all}

-- ---- lists of requests

no_requests : (queues : Address → List Tree) (place : ℕ) (log : List Request) → exchanges queues place log ≡ [] → log ≡ []
no_requests queues place [] e = refl
no_requests queues place (q ∷ qs) e = cc

both_none : (queues : Address → List Tree) (place : ℕ) (left right : List Request) → exchanges queues place left ≡ [] → exchanges queues place right ≡ [] → left ≡ right
both_none queues place left right e f = no_requests queues place left e ∙ sym (no_requests queues place right f)

asked_again : (queues : Address → List Tree) (place : ℕ) (log : List Request) → requests (exchanges queues place log) ≡ log
asked_again queues place [] = refl
asked_again queues place (q ∷ qs) = ap (λ l. q ∷ l) (asked_again (left_after queues q) (suc place) qs)

-- ---- parts, with their redirects

-- with these replies to come, there is one log of which this holds
abbrev Determines : (List Exchange → Type 0) → Type 0
Determines P = (queues : Address → List Tree) (place : ℕ) (left right : List Request) → P (exchanges queues place left) → P (exchanges queues place right) → left ≡ right

follows_log : (links : List Address) (args : List (List ℕ)) (Behind : Exchange → List Exchange → Type 0) → ((last : Exchange) → Determines (Behind last))
    → (budget : ℕ) (hop : Hop) → Determines (FollowsRedirects links budget hop args Behind)
follows_log links args Behind go budget hop queues place [] right h k = absurd h
follows_log links args Behind go budget hop queues place (q ∷ qs) [] h k = absurd k
follows_log links args Behind go budget hop queues place (q ∷ qs) (p ∷ ps) h k =
    ap (λ l. q ∷ l) (by (next_of links budget x.reply) h.1 again.1 (λ next f g. follows_log links args Behind go (budget - 1) next (left_after queues q) (suc place) qs ps f g)) ∙ ap (λ z. z ∷ ps) (sym same)
  where
    same : p ≡ q
    same = k.0 ∙ sym h.0

    x : Exchange
    x = record { request = q; place = place; reply = reply_at (queues q.node) q }

    again : FollowsRedirects links budget hop args Behind (x ∷ exchanges (left_after queues q) (suc place) ps)
    again = subst (λ z. FollowsRedirects links budget hop args Behind (exchanges queues place (z ∷ ps))) same k

    Rest : List Request → Next → Type 0
    Rest qs n = MatchNext n (Behind x (exchanges (left_after queues q) (suc place) qs)) (λ next. FollowsRedirects links (budget - 1) next args Behind (exchanges (left_after queues q) (suc place) qs))

    by : (n : Next) → Rest qs n → Rest ps n
        → ((next : Hop) → FollowsRedirects links (budget - 1) next args Behind (exchanges (left_after queues q) (suc place) qs) → FollowsRedirects links (budget - 1) next args Behind (exchanges (left_after queues q) (suc place) ps) → qs ≡ ps) → qs ≡ ps
    by Stays f g ih = go x (left_after queues q) (suc place) qs ps f g
    by Lost f g ih = go x (left_after queues q) (suc place) qs ps f g
    by (Goes next) f g ih = ih next f g

parts_log : (client : Client) (ds : List Dispatch) → Determines (PartByPart client ds)
parts_log client [] queues place left right h k = both_none queues place left right h k
parts_log client (d ∷ ds) queues place left right h k =
    follows_log client.links d.args (λ x behind. MatchBool (is_answered x) (PartByPart client ds behind) (behind ≡ []))
    (λ last q n l r f g. by (is_answered last) q n l r f g (λ a b. parts_log client ds q n l r a b)) client.settings.budget (first_hop d) queues place left right h k
  where
    by : (b : Bool) (queues : Address → List Tree) (place : ℕ) (left right : List Request) → MatchBool b (PartByPart client ds (exchanges queues place left)) (exchanges queues place left ≡ [])
        → MatchBool b (PartByPart client ds (exchanges queues place right)) (exchanges queues place right ≡ [])
        → (PartByPart client ds (exchanges queues place left) → PartByPart client ds (exchanges queues place right) → left ≡ right) → left ≡ right
    by true queues place left right f g ih = ih f g
    by false queues place left right f g ih = both_none queues place left right f g

-- ---- nodes, one after another

-- a node's requests under way: whether one had no reply so far
abbrev Under : Bool → List Dispatch → List (List Dispatch) → List Exchange → Type 0
Under failed group groups xs = (requests (take (length group) xs) ≡ map direct group) × MatchBool (failed || list_any is_unanswered (take (length group) xs)) (drop (length group) xs ≡ []) (NodeByNode groups (drop (length group) xs))

at_end : (groups : List (List Dispatch)) → Determines (NodeByNode groups) → (failed : Bool) (queues : Address → List Tree) (place : ℕ) (left right : List Request)
    → MatchBool (failed || false) (exchanges queues place left ≡ []) (NodeByNode groups (exchanges queues place left)) → MatchBool (failed || false) (exchanges queues place right ≡ []) (NodeByNode groups (exchanges queues place right)) → left ≡ right
at_end groups go true queues place left right h k = both_none queues place left right h k
at_end groups go false queues place left right h k = go queues place left right h k

or_step : (failed now later : Bool) (A B : Type 0) → MatchBool (failed || (now || later)) A B → MatchBool ((failed || now) || later) A B
or_step true now later A B m = m
or_step false now later A B m = m

under : (group : List Dispatch) (groups : List (List Dispatch)) → Determines (NodeByNode groups) → (failed : Bool) → Determines (Under failed group groups)
under [] groups go failed queues place left right h k = at_end groups go failed queues place left right h.1 k.1
under (d ∷ group) groups go failed queues place [] right h k = let bad = h.0 in cc
under (d ∷ group) groups go failed queues place (q ∷ qs) [] h k = let bad = k.0 in cc
under (d ∷ group) groups go failed queues place (q ∷ qs) (p ∷ ps) h k =
    let one : q ≡ direct d = let e = h.0 in cc in
    let other : p ≡ direct d = let e = k.0 in cc in
    let same : p ≡ q = other ∙ sym one in
    let x : Exchange = record { request = q; place = place; reply = reply_at (queues q.node) q } in
    let k' = subst (λ z. Under failed (d ∷ group) groups (exchanges queues place (z ∷ ps))) same k in
    let rest_h : requests (take (length group) (exchanges (left_after queues q) (suc place) qs)) ≡ map direct group = let e = h.0 in cc in
    let rest_k : requests (take (length group) (exchanges (left_after queues q) (suc place) ps)) ≡ map direct group = let e = k'.0 in cc in
    ap (λ l. q ∷ l) (under group groups go (failed || is_unanswered x) (left_after queues q) (suc place) qs ps (rest_h, or_step failed _ _ _ _ h.1) (rest_k, or_step failed _ _ _ _ k'.1)) ∙ ap (λ z. z ∷ ps) (sym same)

nodes_log : (groups : List (List Dispatch)) → Determines (NodeByNode groups)
nodes_log [] queues place left right h k = both_none queues place left right h k
nodes_log (group ∷ groups) queues place left right h k = under group groups (nodes_log groups) false queues place left right h k

-- ---- attempts at a transaction

pub exchanges_then : (qs rs : List Request) (f : Address → List Tree) (place : ℕ) → exchanges f place (qs ++ rs) ≡ exchanges f place qs ++ exchanges (left_after_all f qs) (place + length qs) rs
exchanges_then [] rs f place =
    let z : place ≡ place + 0 = omega arith in
    ap (λ p. exchanges f p rs) z
exchanges_then (q ∷ qs) rs f place =
    let z : suc place + length qs ≡ place + suc (length qs) = omega arith in
    ap (λ xs. record { request = q; place = place; reply = reply_at (f q.node) q } ∷ xs)
    (exchanges_then qs rs (left_after f q) (suc place) ∙ ap (λ p. exchanges (left_after f q) (suc place) qs ++ exchanges (left_after_all (left_after f q) qs) p rs) z)

module _ (queues : Address → List Tree) (place n : ℕ) (qs rest : List Request) (e : length qs ≡ n) where
  asked_length : length (exchanges queues place qs) ≡ n
  asked_length = sym (requests_length (exchanges queues place qs)) ∙ ap length (asked_again queues place qs) ∙ e

  -- a log that begins with so many requests begins with their exchanges
  first_asked : take n (exchanges queues place (qs ++ rest)) ≡ exchanges queues place qs
  first_asked = ap (take n) (exchanges_then qs rest queues place) ∙ take_all n (exchanges queues place qs) (exchanges (left_after_all queues qs) (place + length qs) rest) asked_length

  then_asked : drop n (exchanges queues place (qs ++ rest)) ≡ exchanges (left_after_all queues qs) (place + length qs) rest
  then_asked = ap (drop n) (exchanges_then qs rest queues place) ∙ drop_all n (exchanges queues place qs) (exchanges (left_after_all queues qs) (place + length qs) rest) asked_length

requests_take : (n : ℕ) (xs : List Exchange) → requests (take n xs) ≡ take n (requests xs)
requests_take zero xs = refl
requests_take (suc n) [] = refl
requests_take (suc n) (x ∷ xs) = ap (λ l. x.request ∷ l) (requests_take n xs)

module _ (links : List Address) (commands : List (List (List ℕ))) where
  abbrev n : ℕ
  n = size commands

  -- what is there behind an attempt with these exchanges
  abbrev Goes-on : ℕ → List Exchange → List Exchange → Type 0
  Goes-on redirects ys zs = MatchNext (next_attempt links (suc redirects) (replies_in ys)) (zs ≡ []) (λ next. FollowsAttempts links redirects next commands zs)

  begins : (hop : Hop) (queues : Address → List Tree) (place : ℕ) (log : List Request) → requests (take n (exchanges queues place log)) ≡ attempt hop commands → log ≡ attempt hop commands ++ drop n log
  begins hop queues place log e =
      let front : take n log ≡ attempt hop commands = ap (take n) (sym (asked_again queues place log)) ∙ sym (requests_take n (exchanges queues place log)) ∙ e in
      sym (take-append-drop n log) ∙ ap (λ qs. qs ++ drop n log) front

  behind : (redirects : ℕ) (hop : Hop) (queues : Address → List Tree) (place : ℕ) (log : List Request) → FollowsAttempts links (suc redirects) hop commands (exchanges queues place log)
      → Goes-on redirects (exchanges queues place (attempt hop commands)) (exchanges (left_after_all queues (attempt hop commands)) (place + length (attempt hop commands)) (drop n log))
  behind redirects hop queues place log h =
      let whole = begins hop queues place log h.0 in
      let first : take n (exchanges queues place log) ≡ exchanges queues place (attempt hop commands) =
      ap (λ l. take n (exchanges queues place l)) whole ∙ first_asked queues place n (attempt hop commands) (drop n log) (size_of hop commands) in
      let rest : drop n (exchanges queues place log) ≡ exchanges (left_after_all queues (attempt hop commands)) (place + length (attempt hop commands)) (drop n log) =
      ap (λ l. drop n (exchanges queues place l)) whole ∙ then_asked queues place n (attempt hop commands) (drop n log) (size_of hop commands) in
      subst (λ zs. Goes-on redirects (exchanges queues place (attempt hop commands)) zs) rest (subst (λ ys. Goes-on redirects ys (drop n (exchanges queues place log))) first h.1)

  attempts_log : (redirects : ℕ) (hop : Hop) → Determines (FollowsAttempts links redirects hop commands)
  attempts_log zero hop queues place one other h k = sym (asked_again queues place one) ∙ h ∙ sym k ∙ asked_again queues place other
  attempts_log (suc redirects) hop queues place one other h k =
      begins hop queues place one h.0
      ∙ ap (λ l. attempt hop commands ++ l) (by (next_attempt links (suc redirects) (replies_in (exchanges queues place (attempt hop commands)))) (behind redirects hop queues place one h) (behind redirects hop queues place other k)
      (λ next f g. attempts_log redirects next (left_after_all queues (attempt hop commands)) (place + length (attempt hop commands)) (drop n one) (drop n other) f g))
      ∙ sym (begins hop queues place other k.0)
    where
      later : Address → List Tree
      later = left_after_all queues (attempt hop commands)

      Rest : Next → List Request → Type 0
      Rest next log = MatchNext next (exchanges later (place + length (attempt hop commands)) log ≡ []) (λ h. FollowsAttempts links redirects h commands (exchanges later (place + length (attempt hop commands)) log))

      by : (next : Next) → Rest next (drop n one) → Rest next (drop n other) → ((hop : Hop) → Rest (Goes hop) (drop n one) → Rest (Goes hop) (drop n other) → drop n one ≡ drop n other) → drop n one ≡ drop n other
      by Stays f g ih = both_none later (place + length (attempt hop commands)) (drop n one) (drop n other) f g
      by Lost f g ih = both_none later (place + length (attempt hop commands)) (drop n one) (drop n other) f g
      by (Goes next) f g ih = ih next f g

transaction_log : (client : Client) (commands : List (List (List ℕ))) (ds : List Dispatch) → Determines (AttemptAfterAttempt client commands ds)
transaction_log client commands [] queues place left right h k = both_none queues place left right h k
transaction_log client commands (d ∷ ds) queues place left right h k = attempts_log client.links commands client.settings.budget (first_hop d) queues place left right h k

-- ---- calls

same_requests : (ds : List Dispatch) → Determines (λ xs. requests xs ≡ map direct ds)
same_requests ds queues place left right h k = sym (asked_again queues place left) ∙ h ∙ sym k ∙ asked_again queues place right

made_log : (client : Client) (task : Task) (ds : List Dispatch) → Determines (AreMade client task ds)
made_log client (slot_map_of node) ds = same_requests ds
made_log client (one_command command number order) ds = parts_log client ds
made_log client (pipeline_of entries) ds = nodes_log (node_groups ds)
made_log client (positions_of entries) ds = same_requests (concat (node_groups ds))
made_log client (several_nodes command) ds = same_requests ds
made_log client (one_node node command) ds = same_requests ds
made_log client (transaction_of commands) ds = transaction_log client (args_of commands) ds
made_log client (read_of options streams) ds = parts_log client ds

pub replies_determine_logs : (client : Client) (picks : List Address) (call : Call) (queues : Address → List Tree) (place : ℕ) (left right : List Request)
    → IsLegalCall client picks call (exchanges queues place left) → IsLegalCall client picks call (exchanges queues place right) → left ≡ right
replies_determine_logs client picks call queues place left right h k = by (plan client picks call) h k
  where
    by : (o : Result (List Dispatch) Refusal) → MatchResult o (λ ds. AreMade client (task_of call) ds (exchanges queues place left)) (λ refusal. exchanges queues place left ≡ [])
        → MatchResult o (λ ds. AreMade client (task_of call) ds (exchanges queues place right)) (λ refusal. exchanges queues place right ≡ []) → left ≡ right
    by (Ok ds) h k = made_log client (task_of call) ds queues place left right h k
    by (Err refusal) h k = both_none queues place left right h k
