-- Whether a refresh is needed, by the link calls and by the log: so a call that is no refresh answers its map and its flag.
use Rattle.std.specs.Prelude.{◌||◌, ◌&&◌, not, slice_get, drop, suc, is_none}
use Rattle.std.specs.List.{list_any, AllByRecursion}
use Rattle.std.proofs.Common.{◌≡◌, ℕ, ◌+◌, Bool, true, false, List, [], ◌∷◌, ◌++◌, map, length, refl, sym, ap, ◌∙◌, subst, Option, Result, arith}
use Rattle.std.proofs.lemmas.Bool.{false≢true}
use Rattle.std.proofs.lemmas.List.Folds.{list_any-append}
use Rattle.resp_core.specs.Trees.{Tree}
use Rattle.resp_core.specs.Errors.{Refusal}
use Rattle.resp_link.specs.Replies.{replies_of}
use Rattle.resp_link.specs.Call.{Seen}
use Rattle.cluster_routing.specs.Address.{Address, same_address}
use Rattle.cluster_routing.specs.Choice.{Strategy}
use Rattle.cluster_routing.specs.SlotMap.{SlotEntries}
use Rattle.cluster_routing.specs.Lists.{IsDistinct, concat}
use Rattle.cluster_calls.specs.Links.Request.{Request, skipped}
use Rattle.cluster_calls.specs.Links.Log.{Exchange, is_moved, is_moved_reply, has_lost, is_unanswered}
use Rattle.cluster_calls.specs.Links.World.{Node, World}
use Rattle.cluster_calls.specs.Calls.Call.{Call, Refresh, Query, Ordered, Pipeline, Each, FanOut, At, OnStreams, Transaction}
use Rattle.cluster_calls.specs.Calls.Task.{task_of}
use Rattle.cluster_calls.specs.Calls.Picks.{ArePicks}
use Rattle.cluster_calls.specs.Calls.Legal.{IsLegalCall}
use Rattle.cluster_calls.specs.Links.Faults.{LinkFault}
use Rattle.cluster_calls.specs.Calls.Answer.{Answer, IsAnswerOf}
use Rattle.cluster_calls.specs.Calls.After.{map_after, flag_after, some_moved, is_moved_whole}
use Rattle.cluster_calls.specs.Links.Events.{Event, Ending, answers, fails, EndsBy, AllTo, Runs, log_of, pair_up, exchanges_at, exchanges_of, Agrees, lack_memory, is_answer_ending, answered_moved, LinkCalled}
use Rattle.cluster_calls.specs.Links.Happened.{client_of, is_each, is_refresh, Happened, Answered}
use Rattle.cluster_calls.specs.Links.Chains.{IsSingle}
use Rattle.cluster_calls.specs.Calls.OneSlot.{args_of}
use Rattle.cluster_calls.specs.Calls.Transactions.{in_sizes, size}
use Rattle.cluster_calls.specs.Links.AttemptRuns.{IsAttempt}
use Rattle.cluster_calls.proofs.LogLaws.StreamTasks.{stream_tasks}
use Rattle.cluster_calls.proofs.LinkLaws.OpenLinks.{swapped}
use Rattle.cluster_calls.proofs.LinkLaws.Pairing.{some_lost, other_lost, has_lost-append}
use Rattle.cluster_calls.proofs.LinkLaws.EndLaws.{ends_pairs, single_failed}
use Rattle.cluster_calls.proofs.LinkLaws.NodeLaws.{lost_here}
use Rattle.cluster_calls.proofs.LinkLaws.LinkRuns.{or_parts}
use Rattle.cluster_calls.proofs.LinkLaws.LinkCalls.{AreLinkCalls}
use Rattle.cluster_calls.proofs.LinkLaws.Addresses.{same_refl}
use Rattle.cluster_calls.proofs.Lists.{or_none}
use Rattle.cluster_calls.proofs.LogLaws.Attempts.{size_of}
use Rattle.cluster_calls.proofs.LogLaws.Sizes.{in_sizes_are}

moved_place : (trees : List Tree) (place other : ℕ) (qs : List Request) → list_any is_moved (pair_up trees place qs) ≡ list_any is_moved (pair_up trees other qs)
moved_place trees place other [] = refl
moved_place trees place other (q ∷ qs) = ap (λ b. is_moved_reply (slice_get trees (skipped q.asking)) || b) (moved_place (drop (skipped q.asking + 1) trees) (suc place) (suc other) qs)

-- ---- link calls with one request each

moved_single : (b a : Seen) (q : Request) (taken : List Tree) (e : Ending) (place : ℕ) → EndsBy b a (q ∷ []) taken e
    → (is_answer_ending e && list_any is_moved (pair_up (replies_of taken) 0 (q ∷ []))) ≡ list_any is_moved (pair_up (replies_of taken) place (q ∷ []))
moved_single b a q taken (answers replies) place d = moved_place (replies_of taken) 0 place (q ∷ [])
moved_single b a q taken (fails fault) place d = sym (ap (λ r. is_moved_reply r || false) (single_failed b a q taken fault d))

pub moved_singles : (old new : List Node) (xs : List Event) (place : ℕ) → Runs old new xs → AllByRecursion IsSingle xs → answered_moved xs ≡ list_any is_moved (exchanges_of place xs)
moved_singles old new [] place r h = refl
moved_singles old new (x ∷ xs) place r h =
    let s = r.1 in
    let here : (is_answer_ending x.ending && list_any is_moved (exchanges_at 0 x)) ≡ list_any is_moved (exchanges_at place x) =
    subst (λ qs. EndsBy s.before s.after qs x.taken x.ending → (is_answer_ending x.ending && list_any is_moved (pair_up (replies_of x.taken) 0 qs)) ≡ list_any is_moved (pair_up (replies_of x.taken) place qs)) (sym h.0.1) (λ d. moved_single s.before s.after h.0.0 x.taken x.ending place d) s.ends in
    ap (λ b. b || answered_moved xs) here
    ∙ ap (λ b. list_any is_moved (exchanges_at place x) || b) (moved_singles r.0 new xs (place + length x.requests) r.2 h.1)
    ∙ sym (list_any-append is_moved (exchanges_at place x) (exchanges_of (place + length x.requests) xs))

-- ---- no node with two link calls

-- the replies MOVED at nodes that are not lost
abbrev counted : (Address → Bool) → List Exchange → Bool
counted lost xs = list_any (λ (e : Exchange). is_moved e && not (lost e.request.node)) xs

spread : (m r n : Bool) → ((m && n) || (r && n)) ≡ ((m || r) && n)
spread true true n = or_same n
  where
    or_same : (b : Bool) → (b || b) ≡ b
    or_same true = refl
    or_same false = refl
spread true false n = or_none n
spread false r n = refl

counted_to : (lost : Address → Bool) (node : Address) (qs : List Request) (trees : List Tree) (place : ℕ) → AllTo node qs → counted lost (pair_up trees place qs) ≡ (list_any is_moved (pair_up trees place qs) && not (lost node))
counted_to lost node [] trees place all = refl
counted_to lost node (q ∷ qs) trees place all =
    let later = pair_up (drop (skipped q.asking + 1) trees) (suc place) qs in
    let m = is_moved_reply (slice_get trees (skipped q.asking)) in
    ap (λ a. (m && not (lost a)) || counted lost later) all.0
    ∙ ap (λ b. (m && not (lost node)) || b) (counted_to lost node qs (drop (skipped q.asking + 1) trees) (suc place) all.1)
    ∙ spread m (list_any is_moved later) (not (lost node))

and_swap : (a b c : Bool) → c ≡ not a → (a && b) ≡ (b && not c)
and_swap true true c e = rw e refl
and_swap true false c e = refl
and_swap false true c e = rw e refl
and_swap false false c e = refl

-- these nodes are lost exactly if their link call was not answered
abbrev LostUnanswered : (Address → Bool) → List Event → Type 0
LostUnanswered lost xs = AllByRecursion (λ (x : Event). lost x.node ≡ not (is_answer_ending x.ending)) xs

moved_counted : (lost : Address → Bool) (old new : List Node) (xs : List Event) (place : ℕ) → Runs old new xs → LostUnanswered lost xs → answered_moved xs ≡ counted lost (exchanges_of place xs)
moved_counted lost old new [] place r h = refl
moved_counted lost old new (x ∷ xs) place r h =
    let here : (is_answer_ending x.ending && list_any is_moved (exchanges_at 0 x)) ≡ counted lost (exchanges_at place x) =
    ap (λ b. is_answer_ending x.ending && b) (moved_place (replies_of x.taken) 0 place x.requests)
    ∙ and_swap (is_answer_ending x.ending) (list_any is_moved (exchanges_at place x)) (lost x.node) h.0
    ∙ sym (counted_to lost x.node x.requests (replies_of x.taken) place r.1.to_node) in
    ap (λ b. b || answered_moved xs) here
    ∙ ap (λ b. counted lost (exchanges_at place x) || b) (moved_counted lost r.0 new xs (place + length x.requests) r.2 h.1)
    ∙ sym (list_any-append (λ (e : Exchange). is_moved e && not (lost e.request.node)) (exchanges_at place x) (exchanges_of (place + length x.requests) xs))

lost_uncalled : (old new : List Node) (xs : List Event) (place : ℕ) → Runs old new xs → (a : Address) → list_any (λ k. same_address a k) (map (λ (x : Event). x.node) xs) ≡ false → has_lost a (exchanges_of place xs) ≡ false
lost_uncalled old new [] place r a n = refl
lost_uncalled old new (x ∷ xs) place r a n =
    let parts = or_parts (same_address a x.node) (list_any (λ k. same_address a k) (map (λ (x : Event). x.node) xs)) n in
    has_lost-append a (exchanges_at place x) (exchanges_of (place + length x.requests) xs)
    ∙ ap (λ b. b || has_lost a (exchanges_of (place + length x.requests) xs)) (other_lost x.node a x.requests (replies_of x.taken) place r.1.to_node (swapped x.node a ∙ parts.0))
    ∙ lost_uncalled r.0 new xs (place + length x.requests) r.2 a parts.1

lost_called : (b a : Seen) (node : Address) (qs : List Request) (taken : List Tree) (e : Ending) (place : ℕ) → (qs ≡ [] → ⊥) → AllTo node qs → EndsBy b a qs taken e → has_lost node (pair_up (replies_of taken) place qs) ≡ not (is_answer_ending e)
lost_called b a node qs taken (answers replies) place some all d = lost_here node qs (replies_of taken) replies place (ends_pairs b a qs taken (answers replies) some d)
lost_called b a node qs taken (fails fault) place some all d = some_lost node qs (replies_of taken) place all (ends_pairs b a qs taken (fails fault) some d)

-- another node's link call before them
lost_behind : (x : Event) (place : ℕ) (es : List Exchange) (ys : List Event) → AllTo x.node x.requests → list_any (λ k. same_address x.node k) (map (λ (y : Event). y.node) ys) ≡ false
    → LostUnanswered (λ a. has_lost a es) ys → LostUnanswered (λ a. has_lost a (exchanges_at place x ++ es)) ys
lost_behind x place es [] all n h = tt
lost_behind x place es (y ∷ ys) all n h =
    let parts = or_parts (same_address x.node y.node) (list_any (λ k. same_address x.node k) (map (λ (y : Event). y.node) ys)) n in (
      has_lost-append y.node (exchanges_at place x) es ∙ ap (λ b. b || has_lost y.node es) (other_lost x.node y.node x.requests (replies_of x.taken) place all parts.0) ∙ h.0,
      lost_behind x place es ys all parts.1 h.1,
    )

lost_each : (old new : List Node) (xs : List Event) (place : ℕ) → Runs old new xs → IsDistinct same_address (map (λ (x : Event). x.node) xs) → LostUnanswered (λ a. has_lost a (exchanges_of place xs)) xs
lost_each old new [] place r d = tt
lost_each old new (x ∷ xs) place r d =
    let s = r.1 in
    let es = exchanges_of (place + length x.requests) xs in (
      has_lost-append x.node (exchanges_at place x) es
          ∙ ap (λ b. has_lost x.node (exchanges_at place x) || b) (lost_uncalled r.0 new xs (place + length x.requests) r.2 x.node d.0)
          ∙ or_none (has_lost x.node (exchanges_at place x))
          ∙ lost_called s.before s.after x.node x.requests x.taken x.ending place s.some s.to_node s.ends,
      lost_behind x place es xs s.to_node d.0 (lost_each r.0 new xs (place + length x.requests) r.2 d.1),
    )

pub moved_once : (old new : List Node) (xs : List Event) (place : ℕ) → Runs old new xs → IsDistinct same_address (map (λ (x : Event). x.node) xs) → answered_moved xs ≡ some_moved (exchanges_of place xs)
moved_once old new xs place r d = moved_counted (λ a. has_lost a (exchanges_of place xs)) old new xs place r (lost_each old new xs place r d)

-- ---- an attempt at a transaction each

-- the exchanges of each link call
abbrev lists_at : ℕ → List Event → List (List Exchange)
lists_at place [] = []
lists_at place (x ∷ xs) = exchanges_at place x ∷ lists_at (place + length x.requests) xs

together : (place : ℕ) (xs : List Event) → concat (lists_at place xs) ≡ exchanges_of place xs
together place [] = refl
together place (x ∷ xs) = ap (λ ys. exchanges_at place x ++ ys) (together (place + length x.requests) xs)

paired_length : (trees : List Tree) (place : ℕ) (qs : List Request) → length (pair_up trees place qs) ≡ length qs
paired_length trees place [] = refl
paired_length trees place (q ∷ qs) = ap suc (paired_length (drop (skipped q.asking + 1) trees) (suc place) qs)

sized_lists : (commands : List (List (List ℕ))) (place : ℕ) (xs : List Event) → AllByRecursion (IsAttempt commands) xs → AllByRecursion (λ (ys : List Exchange). length ys ≡ size commands) (lists_at place xs)
sized_lists commands place [] h = tt
sized_lists commands place (x ∷ xs) h = (
  paired_length (replies_of x.taken) place x.requests ∙ ap length h.0.1 ∙ size_of h.0.0 commands,
  sized_lists commands (place + length x.requests) xs h.1,
)

-- where all requests are to one node, it is lost if one of them is
lost_any : (node : Address) (qs : List Request) (trees : List Tree) (place : ℕ) → AllTo node qs → has_lost node (pair_up trees place qs) ≡ list_any is_unanswered (pair_up trees place qs)
lost_any node [] trees place all = refl
lost_any node (q ∷ qs) trees place all =
    let to : same_address q.node node ≡ true = ap (λ a. same_address a node) all.0 ∙ same_refl node in
    ap (λ b. (b && is_none (slice_get trees (skipped q.asking))) || has_lost node (pair_up (drop (skipped q.asking + 1) trees) (suc place) qs)) to
    ∙ ap (λ b. is_none (slice_get trees (skipped q.asking)) || b) (lost_any node qs (drop (skipped q.asking + 1) trees) (suc place) all.1)

moved_attempt : (old new : List Node) (x : Event) (place : ℕ) → LinkCalled old new x → (is_answer_ending x.ending && list_any is_moved (exchanges_at 0 x)) ≡ is_moved_whole (exchanges_at place x)
moved_attempt old new x place s =
    ap (λ b. is_answer_ending x.ending && b) (moved_place (replies_of x.taken) 0 place x.requests)
    ∙ and_swap (is_answer_ending x.ending) (list_any is_moved (exchanges_at place x)) (list_any is_unanswered (exchanges_at place x))
    (sym (lost_any x.node x.requests (replies_of x.taken) place s.to_node) ∙ lost_called s.before s.after x.node x.requests x.taken x.ending place s.some s.to_node s.ends)

moved_lists : (old new : List Node) (xs : List Event) (place : ℕ) → Runs old new xs → answered_moved xs ≡ list_any is_moved_whole (lists_at place xs)
moved_lists old new [] place r = refl
moved_lists old new (x ∷ xs) place r =
    ap (λ b. b || answered_moved xs) (moved_attempt old r.0 x place r.1)
    ∙ ap (λ b. is_moved_whole (exchanges_at place x) || b) (moved_lists r.0 new xs (place + length x.requests) r.2)

moved_attempts : (old new : List Node) (commands : List (List (List ℕ))) (xs : List Event) (place : ℕ) → Runs old new xs → AllByRecursion (IsAttempt commands) xs
    → answered_moved xs ≡ list_any is_moved_whole (in_sizes (size commands) (exchanges_of place xs))
moved_attempts old new commands xs place r h =
    moved_lists old new xs place r
    ∙ sym (ap (list_any is_moved_whole) (in_sizes_are (size commands) (lists_at place xs) (omega arith) (sized_lists commands place xs h)))
    ∙ ap (λ ys. list_any is_moved_whole (in_sizes (size commands) ys)) (together place xs)

-- ---- a call that is no refresh

plain_map : (call : Call) (entries : SlotEntries) (xs : List Exchange) → is_refresh call ≡ false → map_after entries call xs ≡ entries
plain_map (Refresh node) entries xs n = absurd (false≢true (sym n))
plain_map call entries xs n = refl

plain_flag : (old new : List Node) (xs : List Event) (place : ℕ) (call : Call) (flag : Bool) → is_refresh call ≡ false → Runs old new xs → AreLinkCalls (task_of call) xs
    → (flag || answered_moved xs) ≡ flag_after flag call (exchanges_of place xs)
plain_flag old new xs place (Refresh node) flag n r h = absurd (false≢true (sym n))
plain_flag old new xs place (Query command number) flag n r h = ap (λ b. flag || b) (moved_singles old new xs place r h)
plain_flag old new xs place (Ordered command order number) flag n r h = ap (λ b. flag || b) (moved_singles old new xs place r h)
plain_flag old new xs place (Pipeline commands) flag n r h = ap (λ b. flag || b) (moved_once old new xs place r h)
plain_flag old new xs place (Each commands) flag n r h = ap (λ b. flag || b) (moved_once old new xs place r h)
plain_flag old new xs place (FanOut command) flag n r h = ap (λ b. flag || b) (moved_singles old new xs place r h)
plain_flag old new xs place (At node command) flag n r h = ap (λ b. flag || b) (moved_singles old new xs place r h)
plain_flag old new xs place (Transaction commands) flag n r h = ap (λ b. flag || b) (moved_attempts old new (args_of commands) xs place r h)
plain_flag old new xs place (OnStreams call) flag n r h =
    ap (λ b. flag || b) (moved_singles old new xs place r (stream_tasks (λ task. AreLinkCalls task xs → AllByRecursion IsSingle xs) (λ command number order a. a) (λ options streams a. a) call h))

-- so code proves its log and its answer alone
pub answered_plain : (strategy : Option Strategy) (old new : World) (call : Call) (answer : Result Answer Refusal) (h : Happened strategy old new call) → is_refresh call ≡ false → AreLinkCalls (task_of call) h.events
    → (is_each call ≡ false → lack_memory h.events ≡ false) → new.log ≡ log_of h.events → ArePicks strategy (client_of old) call new.picked
    → ((place : ℕ) → IsLegalCall (client_of old) new.picked call (exchanges_of place h.events))
    → ((faults : Address → LinkFault) → Agrees faults h.events → (place : ℕ) → IsAnswerOf (client_of old) new.picked faults call (exchanges_of place h.events) answer)
    → Answered strategy old new call h.events answer
answered_plain strategy old new call answer h n made memory logged picks legal answered = record {
  memory = memory;
  logged = logged;
  picks = picks;
  legal = legal;
  answered = answered;
  entries = λ place. h.map_stays n ∙ sym (plain_map call old.entries (exchanges_of place h.events) n);
  flag = λ place. h.flag n ∙ plain_flag old.nodes new.nodes h.events place call old.needs_refresh n h.runs made;
}
