-- One attempt at a transaction is one link call: its replies, or its fault.
use Rattle.std.specs.Prelude.{slice_get, is_none, ◌||◌, ◌&&◌, ◌⊎◌}
use Rattle.std.specs.List.{list_any}
use Rattle.std.proofs.Common.{◌≡◌, ◌≢◌, ℕ, zero, suc, ◌+◌, ◌-◌, ◌<◌, Bool, true, false, cond, List, [], ◌∷◌, ◌++◌, map, length, drop, Option, Some, None, Result, Ok, Err, refl, sym, ap, ◌∙◌, length-append, length-drop, inl, inr, arith}
use Rattle.resp_core.specs.Trees.{Tree}
use Rattle.resp_core.specs.Errors.{Refusal, by_cause}
use Rattle.resp_core.specs.declared.errors.redis_error.Cause.TheVariants.{Memory}
use Rattle.resp_link.specs.Call.{Seen}
use Rattle.resp_link.specs.Replies.{replies_of}
use Rattle.cluster_routing.specs.Address.{Address}
use Rattle.cluster_calls.specs.Calls.Redirects.{Hop}
use Rattle.cluster_calls.specs.Calls.Transactions.{attempt, exec_reply, lost_refusal, replies_in, size, without_asking}
use Rattle.cluster_calls.specs.Links.Events.{Event, Ending, answers, fails, EndsBy, LinkCalled, AllTo, AgreesAt, exchanges_at, is_answer_ending, is_memory_ending, pair_up, reply_count}
use Rattle.cluster_calls.specs.Links.Exchanges.{Exchanges, not_begun, made}
use Rattle.cluster_calls.specs.Links.Faults.{LinkFault, refusal_by_fault}
use Rattle.cluster_calls.specs.Links.Log.{Exchange, is_moved, is_moved_reply}
use Rattle.cluster_calls.specs.Links.Places.{IsOpenAt}
use Rattle.cluster_calls.specs.Links.Request.{Request, bytes_of, skipped, exec}
use Rattle.cluster_calls.specs.Links.World.{Node, Called, CallsLink, link_at, is_usable, open_links}
use Rattle.cluster_calls.proofs.LinkLaws.EndLaws.{answered_pairs, ends_pairs, ends_usable, ends_was_open}
use Rattle.cluster_calls.proofs.LinkLaws.LinkEnds.{ending_of, ending_refusal, ended_refusal, had_memory_by, refusal_agrees, link_called_at}
use Rattle.cluster_calls.proofs.LinkLaws.LinkPlaces.{found, linked, set_open}
use Rattle.cluster_calls.proofs.LinkLaws.Pairing.{few_get}

-- ---- the requests

abbrev pub plain_all : Address → List (List (List ℕ)) → List Request
plain_all node all = map (without_asking node) all

plain_count : (node : Address) (all : List (List (List ℕ))) → reply_count (plain_all node all) ≡ length all
plain_count node [] = refl
plain_count node (a ∷ all) = let k = plain_count node all in omega (arith, k)

pub attempt_count_is : (hop : Hop) (commands : List (List (List ℕ))) → reply_count (attempt hop commands) ≡ skipped hop.asking + size commands
attempt_count_is hop commands =
    let l : length (commands ++ exec ∷ []) ≡ length commands + 1 = length-append commands (exec ∷ []) in
    let k = plain_count hop.node (commands ++ exec ∷ []) in
    omega (arith, l, k)

plain_to : (node : Address) (all : List (List (List ℕ))) → AllTo node (plain_all node all)
plain_to node [] = tt
plain_to node (a ∷ all) = (refl, plain_to node all)

pub attempt_to : (hop : Hop) (commands : List (List (List ℕ))) → AllTo hop.node (attempt hop commands)
attempt_to hop commands = (refl, plain_to hop.node (commands ++ exec ∷ []))

-- ---- replies that are there

abbrev pub heard : List Tree → List (Option Tree)
heard trees = map (λ tree. Some tree) trees

plain_heard : (node : Address) (all : List (List (List ℕ))) (trees : List Tree) (place : ℕ) → length trees ≡ length all → replies_in (pair_up trees place (plain_all node all)) ≡ heard trees
plain_heard node [] [] place e = refl
plain_heard node [] (t ∷ ts) place e = absurd (omega arith)
plain_heard node (a ∷ all) [] place e = absurd (omega arith)
plain_heard node (a ∷ all) (t ∷ ts) place e = ap (λ rs. Some t ∷ rs) (plain_heard node all ts (suc place) (omega arith))

attempt_heard_by : (node : Address) (asking : Bool) (commands : List (List (List ℕ))) (dropped trees : List Tree) (place : ℕ) → length dropped ≡ skipped asking → length trees ≡ size commands
    → replies_in (pair_up (dropped ++ trees) place (attempt (record { node = node; asking = asking }) commands)) ≡ heard trees
attempt_heard_by node asking commands dropped [] place d e = absurd (omega arith)
attempt_heard_by node true commands [] (t ∷ ts) place d e = absurd (omega arith)
attempt_heard_by node true commands (x ∷ []) (t ∷ ts) place d e =
    let l : length (commands ++ exec ∷ []) ≡ length commands + 1 = length-append commands (exec ∷ []) in
    ap (λ rs. Some t ∷ rs) (plain_heard node (commands ++ exec ∷ []) ts (suc place) (omega (arith, l, e)))
attempt_heard_by node true commands (x ∷ y ∷ dropped) (t ∷ ts) place d e = absurd (omega arith)
attempt_heard_by node false commands [] (t ∷ ts) place d e =
    let l : length (commands ++ exec ∷ []) ≡ length commands + 1 = length-append commands (exec ∷ []) in
    ap (λ rs. Some t ∷ rs) (plain_heard node (commands ++ exec ∷ []) ts (suc place) (omega (arith, l, e)))
attempt_heard_by node false commands (x ∷ dropped) (t ∷ ts) place d e = absurd (omega arith)

pub attempt_heard : (hop : Hop) (commands : List (List (List ℕ))) (dropped trees : List Tree) (place : ℕ) → length dropped ≡ skipped hop.asking → length trees ≡ size commands
    → replies_in (pair_up (dropped ++ trees) place (attempt hop commands)) ≡ heard trees
attempt_heard hop commands dropped trees place d e = attempt_heard_by hop.node hop.asking commands dropped trees place d e

-- ---- replies that are missing

some_counted : (q : Request) (qs : List Request) → 0 < reply_count (q ∷ qs)
some_counted q qs = omega arith

-- with fewer replies than that the last request has none
pub last_lost : (qs : List Request) (rs : List Tree) (place : ℕ) → length rs < reply_count qs → exec_reply (replies_in (pair_up rs place qs)) ≡ None
last_lost [] rs place h = absurd (omega arith)
last_lost (q ∷ []) rs place h = few_get rs (skipped q.asking) (omega arith)
last_lost (q ∷ r ∷ qs) rs place h =
    let l : length (drop (skipped q.asking + 1) rs) ≡ length rs - (skipped q.asking + 1) = length-drop (skipped q.asking + 1) rs in
    let some = some_counted r qs in
    last_lost (r ∷ qs) (drop (skipped q.asking + 1) rs) (suc place) (omega (arith, l, some, h))

-- and the refusal is by the fault of their node
lost_by : (faults : Address → LinkFault) (node : Address) (q : Request) (reply : Option Tree) (later : Option Refusal) → q.node ≡ node → (is_none reply ≡ false → later ≡ Some (refusal_by_fault (faults node)))
    → cond (is_none reply) (Some (refusal_by_fault (faults q.node))) later ≡ Some (refusal_by_fault (faults node))
lost_by faults node q None later to h = ap (λ a. Some (refusal_by_fault (faults a))) to
lost_by faults node q (Some tree) later to h = h refl

pub lost_told : (faults : Address → LinkFault) (node : Address) (qs : List Request) (rs : List Tree) (place : ℕ) → AllTo node qs → length rs < reply_count qs → lost_refusal faults (pair_up rs place qs) ≡ Some (refusal_by_fault (faults node))
lost_told faults node [] rs place to h = absurd (omega arith)
lost_told faults node (q ∷ qs) rs place to h =
    lost_by faults node q (slice_get rs (skipped q.asking)) (lost_refusal faults (pair_up (drop (skipped q.asking + 1) rs) (suc place) qs)) to.0
    (λ there.
    let l : length (drop (skipped q.asking + 1) rs) ≡ length rs - (skipped q.asking + 1) = length-drop (skipped q.asking + 1) rs in
    let many = enough rs (skipped q.asking) there in
    lost_told faults node qs (drop (skipped q.asking + 1) rs) (suc place) to.1 (omega (arith, l, many, h)))
  where
    enough : (rs : List Tree) (n : ℕ) → is_none (slice_get rs n) ≡ false → n < length rs
    enough [] n e = cc
    enough (x ∷ rs) zero e = omega arith
    enough (x ∷ rs) (suc n) e = let k = enough rs n e in omega (arith, k)

-- where all are there none refuses
pub none_lost : (faults : Address → LinkFault) (xs : List Exchange) (trees : List Tree) → replies_in xs ≡ heard trees → lost_refusal faults xs ≡ None
none_lost faults [] trees e = refl
none_lost faults (x ∷ xs) [] e = cc
none_lost faults (x ∷ xs) (t ∷ ts) e =
    let own : x.reply ≡ Some t = cc in
    let rest : replies_in xs ≡ heard ts = cc in
    ap (λ r. cond (is_none r) (Some (refusal_by_fault (faults x.request.node))) (lost_refusal faults xs)) own ∙ none_lost faults xs ts rest

-- ---- one link call

abbrev pub called_event : Hop → List (List (List ℕ)) → List Tree → Result (List Tree) Refusal → Event
called_event hop commands taken result = record { node = hop.node; requests = attempt hop commands; taken = taken; ending = ending_of result }

-- replies to all requests, or a refusal that its ending tells
abbrev pub ToldBy : List (List (List ℕ)) → Result (List Tree) Refusal → Type 0
ToldBy commands (Ok trees) = length trees ≡ size commands
ToldBy commands (Err e) = ending_refusal (ending_of (Err e)) ≡ Some e

pub record AttemptMade (old new : List Node) (hop : Hop) (commands : List (List (List ℕ))) (result : Result (List Tree) Refusal) : Type 0 where
  pub taken : List Tree
  pub called : LinkCalled old new (called_event hop commands taken result)
  pub told : ToldBy commands result

some_attempt : (hop : Hop) (commands : List (List (List ℕ))) → attempt hop commands ≢ []
some_attempt hop commands e = cc

whole_count : (hop : Hop) (commands : List (List (List ℕ))) → skipped hop.asking + size commands ≡ reply_count (attempt hop commands)
whole_count hop commands = sym (attempt_count_is hop commands)

told_by : (old new : Seen) (hop : Hop) (commands : List (List (List ℕ))) (result : Result (List Tree) Refusal) → old.usable ≡ true → Called old new (bytes_of (attempt hop commands)) (skipped hop.asking) (size commands) result → ToldBy commands result
told_by old new hop commands (Ok trees) open' called = called.takes.taken_count
told_by old new hop commands (Err e) open' called = ended_refusal old new (attempt hop commands) (skipped hop.asking) (size commands) e (whole_count hop commands) open' called

pub attempt_made : (old new : List Node) (index : ℕ) (hop : Hop) (commands : List (List (List ℕ))) (result : Result (List Tree) Refusal) → IsOpenAt old hop.node index
    → CallsLink old new index (λ before after. Called before after (bytes_of (attempt hop commands)) (skipped hop.asking) (size commands) result) → AttemptMade old new hop commands result
attempt_made old new index hop commands result at calls =
    let s = link_called_at old new hop.node index (attempt hop commands) (skipped hop.asking) (size commands) result at (some_attempt hop commands) (attempt_to hop commands) (whole_count hop commands) calls in
    let f = found old hop.node index at.place in
    let same : f.node ≡ calls.before = let a = f.at in let b = calls.found in cc in
    let there : link_at old hop.node ≡ Some calls.before.link = f.link ∙ ap (λ (n : Node). Some n.link) same in
    let open' : calls.before.link.usable ≡ true = sym (ap is_usable there) ∙ sym (linked old hop.node) ∙ at.linked in
    record { taken = s.0; called = s.1; told = told_by calls.before.link calls.after.link hop commands result open' calls.call }

-- nothing was done for want of memory, or the requests stand in the log and the link call was made
pub attempt_exchanged : (old new : List Node) (link : ℕ) (before after : List Request) (hop : Hop) (commands : List (List (List ℕ))) (result : Result (List Tree) Refusal) → IsOpenAt old hop.node link
    → Exchanges old new link before after (attempt hop commands) (skipped hop.asking) (size commands) result
    → ((new ≡ old) × (after ≡ before) × (result ≡ Err (by_cause Memory))) ⊎ ((after ≡ before ++ attempt hop commands) × AttemptMade old new hop commands result)
attempt_exchanged old new link before after hop commands result at (not_begun same log is) = inl (same, log, is)
attempt_exchanged old new link before after hop commands result at (made log calls) = inr (log, attempt_made old new link hop commands result at calls)

-- ---- its replies

module _ (old new : List Node) (hop : Hop) (commands : List (List (List ℕ))) where
  pub answered_heard : (trees : List Tree) (o : AttemptMade old new hop commands (Ok trees)) (place : ℕ) → replies_in (exchanges_at place (called_event hop commands o.taken (Ok trees))) ≡ heard trees
  answered_heard trees o place =
      let p = answered_pairs o.called.before o.called.after (bytes_of (attempt hop commands)) (reply_count (attempt hop commands)) o.taken trees o.called.ends in
      let l : length (p.1.0 ++ trees) ≡ length p.1.0 + length trees = length-append p.1.0 trees in
      let all : length (p.1.0 ++ trees) ≡ reply_count (attempt hop commands) = sym (ap length p.1.1) ∙ p.0 in
      let count = attempt_count_is hop commands in
      let told : length trees ≡ size commands = o.told in
      ap (λ rs. replies_in (pair_up rs place (attempt hop commands))) p.1.1 ∙ attempt_heard hop commands p.1.0 trees place (omega (arith, l, all, count, told)) told

  few_taken : (e : Refusal) (taken : List Tree) (ending : Ending) (b a : Seen) → ending_refusal ending ≡ Some e → EndsBy b a (attempt hop commands) taken ending → length (replies_of taken) < reply_count (attempt hop commands)
  few_taken e taken (answers replies) b a is ends = cc
  few_taken e taken (fails fault) b a is ends = ends_pairs b a (attempt hop commands) taken (fails fault) (some_attempt hop commands) ends

  pub failed_few : (e : Refusal) → (o : AttemptMade old new hop commands (Err e)) → length (replies_of o.taken) < reply_count (attempt hop commands)
  failed_few e o = few_taken e o.taken (ending_of (Err e)) o.called.before o.called.after o.told o.called.ends

  pub attempt_had_memory : (result : Result (List Tree) Refusal) → result ≢ Err (by_cause Memory) → (o : AttemptMade old new hop commands result) → is_memory_ending (ending_of result) ≡ false
  attempt_had_memory (Ok trees) m o = refl
  attempt_had_memory (Err e) m o = had_memory_by (ending_of (Err e)) e (λ k. m (ap Err k)) o.told

  pub attempt_fault : (e : Refusal) (faults : Address → LinkFault) → (o : AttemptMade old new hop commands (Err e)) → AgreesAt faults hop.node (ending_of (Err e)) → e ≡ refusal_by_fault (faults hop.node)
  attempt_fault e faults o agrees = refusal_agrees faults hop.node (ending_of (Err e)) e o.told agrees

  -- after an answered call the same links are open
  pub attempt_open : (trees : List Tree) (o : AttemptMade old new hop commands (Ok trees)) → open_links new ≡ open_links old
  attempt_open trees o =
      ap open_links o.called.now
      ∙ set_open old hop.node o.called.before o.called.after o.called.found
      (ends_usable o.called.before o.called.after (attempt hop commands) o.taken (answers trees) o.called.ends ∙ sym (ends_was_open o.called.before o.called.after (attempt hop commands) o.taken (answers trees) o.called.ends))

  -- ---- whether a reply was MOVED

  not_answered : (e : Ending) (refusal : Refusal) → ending_refusal e ≡ Some refusal → is_answer_ending e ≡ false
  not_answered (answers replies) refusal is = cc
  not_answered (fails fault) refusal is = refl

-- whether a link call was answered by MOVED
abbrev pub moved_in : Result (List Tree) Refusal → Bool
moved_in (Ok trees) = list_any (λ tree. is_moved_reply (Some tree)) trees
moved_in (Err refusal) = false

moved_heard : (xs : List Exchange) (trees : List Tree) → replies_in xs ≡ heard trees → list_any is_moved xs ≡ list_any (λ tree. is_moved_reply (Some tree)) trees
moved_heard [] [] e = refl
moved_heard [] (t ∷ ts) e = cc
moved_heard (x ∷ xs) [] e = cc
moved_heard (x ∷ xs) (t ∷ ts) e =
    let own : x.reply ≡ Some t = cc in
    let rest : replies_in xs ≡ heard ts = cc in
    ap (λ r. is_moved_reply r || list_any is_moved xs) own ∙ ap (λ b. is_moved_reply (Some t) || b) (moved_heard xs ts rest)

pub attempt_moved : (old new : List Node) (hop : Hop) (commands : List (List (List ℕ))) (result : Result (List Tree) Refusal) (o : AttemptMade old new hop commands result)
    → (is_answer_ending (ending_of result) && list_any is_moved (exchanges_at 0 (called_event hop commands o.taken result))) ≡ moved_in result
attempt_moved old new hop commands (Ok trees) o = moved_heard (exchanges_at 0 (called_event hop commands o.taken (Ok trees))) trees (answered_heard old new hop commands trees o 0)
attempt_moved old new hop commands (Err e) o = ap (λ b. b && list_any is_moved (exchanges_at 0 (called_event hop commands o.taken (Err e)))) (not_answered old new hop commands (ending_of (Err e)) e o.told)
