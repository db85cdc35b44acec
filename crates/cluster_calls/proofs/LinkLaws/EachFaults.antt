-- Outcomes that are told by what link calls were refused are told by each node's fault; and no node has two link calls.
use Rattle.std.specs.Prelude.{◌||◌}
use Rattle.std.specs.List.{list_any}
use Rattle.std.proofs.Common.{◌≡◌, ◌≤◌, ℕ, ◌+◌, Bool, true, false, cond, List, [], ◌∷◌, map, length, Ok, Err, refl, sym, ap, ◌∙◌, subst, arith}
use Rattle.std.proofs.lemmas.Bool.{false≢true}
use Rattle.resp_core.specs.Errors.{Refusal}
use Rattle.resp_link.specs.Replies.{replies_of}
use Rattle.cluster_routing.specs.Address.{Address, same_address}
use Rattle.cluster_routing.specs.Lists.{concat, IsDistinct}
use Rattle.cluster_calls.specs.Links.EachMade.{refusal_by, refusals_of}
use Rattle.cluster_calls.specs.Links.Events.{Event, Ending, answers, fails, EndsBy, LinkCalled, Runs, log_of, calls_of, exchanges_at, exchanges_of, Agrees, AgreesAt}
use Rattle.cluster_calls.specs.Links.Faults.{LinkFault, refusal_by_fault}
use Rattle.cluster_calls.specs.Links.Log.{Exchange, has_lost}
use Rattle.cluster_calls.specs.Links.Nodes.{in_one}
use Rattle.cluster_calls.specs.Links.Request.{Request, requests_to}
use Rattle.cluster_calls.specs.Links.World.{Node}
use Rattle.cluster_calls.specs.Calls.Call.{Entry, Pipeline}
use Rattle.cluster_calls.specs.Calls.Each.{each_of, outcome_of, position_exchanges, reply_outcome, told_each}
use Rattle.cluster_calls.specs.Calls.Legal.{direct, node_groups}
use Rattle.cluster_calls.specs.Calls.Plan.{Client, Dispatch, plan}
use Rattle.cluster_calls.specs.Calls.Replies.{reply_or_nil}
use Rattle.cluster_calls.proofs.LinkLaws.Addresses.{same_true, same_refl}
use Rattle.cluster_calls.proofs.LinkLaws.EndLaws.{ends_pairs}
use Rattle.cluster_calls.proofs.LinkLaws.EventLists.{exchanged}
use Rattle.cluster_calls.proofs.LinkLaws.NodeLaws.{lost_here}
use Rattle.cluster_calls.proofs.LinkLaws.OpenLinks.{swapped}
use Rattle.cluster_calls.proofs.LinkLaws.Pairing.{other_lost, has_lost-append}
use Rattle.cluster_calls.proofs.LogLaws.Fates.{pipe_dispatches}
use Rattle.cluster_calls.proofs.ServerLaws.PipeOrder.{order_is_theirs}

-- ---- by what a link call was refused

behind_it : (b c : Bool) → b ≡ false → (b || c) ≡ true → c ≡ true
behind_it true c e h = absurd (false≢true (sym e))
behind_it false c e h = h

refused_here : (faults : Address → LinkFault) (old mid : List Node) (x : Event) (place : ℕ) (es : List Exchange) (later : Refusal) → LinkCalled old mid x → AgreesAt faults x.node x.ending
    → (has_lost x.node (exchanges_at place x) || has_lost x.node es) ≡ true → (has_lost x.node es ≡ true → later ≡ refusal_by_fault (faults x.node)) → refusal_by x.ending later ≡ refusal_by_fault (faults x.node)
refused_here faults old mid x place es later s agrees lost ih = by x.ending s.ends agrees
  where
    by : (e : Ending) → EndsBy s.before s.after x.requests x.taken e → AgreesAt faults x.node e → refusal_by e later ≡ refusal_by_fault (faults x.node)
    by (fails fault) ends is = ap refusal_by_fault (sym is)
    by (answers replies) ends is =
        ih (behind_it (has_lost x.node (exchanges_at place x)) (has_lost x.node es)
        (lost_here x.node x.requests (replies_of x.taken) replies place (ends_pairs s.before s.after x.requests x.taken (answers replies) s.some ends)) lost)

-- of a node with a lost request it is the node's fault
pub refusals_are_faults : (faults : Address → LinkFault) (old new : List Node) (xs : List Event) (place : ℕ) → Runs old new xs → Agrees faults xs → (a : Address) → has_lost a (exchanges_of place xs) ≡ true
    → refusals_of xs a ≡ refusal_by_fault (faults a)
refusals_are_faults faults old new [] place r agrees a lost = absurd (false≢true lost)
refusals_are_faults faults old new (x ∷ xs) place r agrees a lost =
    by (same_address x.node a) refl (sym (has_lost-append a (exchanges_at place x) es) ∙ lost) (refusals_are_faults faults r.0 new xs (place + length x.requests) r.2 agrees.1 a)
  where
    es : List Exchange
    es = exchanges_of (place + length x.requests) xs

    by : (b : Bool) → same_address x.node a ≡ b → (has_lost a (exchanges_at place x) || has_lost a es) ≡ true → (has_lost a es ≡ true → refusals_of xs a ≡ refusal_by_fault (faults a))
        → cond b (refusal_by x.ending (refusals_of xs a)) (refusals_of xs a) ≡ refusal_by_fault (faults a)
    by true t l ih =
        subst (λ n. (has_lost n (exchanges_at place x) || has_lost n es) ≡ true → (has_lost n es ≡ true → refusals_of xs n ≡ refusal_by_fault (faults n)) → refusal_by x.ending (refusals_of xs n) ≡ refusal_by_fault (faults n))
        (same_true x.node a t) (λ k h. refused_here faults old r.0 x place es (refusals_of xs x.node) r.1 agrees.0 k h) l ih
    by false t l ih = ih (behind_it (has_lost a (exchanges_at place x)) (has_lost a es) (other_lost x.node a x.requests (replies_of x.taken) place r.1.to_node t) l)

-- ---- the outcomes

-- by refusals that are the same of each node with a lost request
same_outcomes : (these those : Address → Refusal) (xs ws : List Exchange) → ((a : Address) → has_lost a xs ≡ true → these a ≡ those a) → map (outcome_of these xs) ws ≡ map (outcome_of those xs) ws
same_outcomes these those xs [] h = refl
same_outcomes these those xs (w ∷ ws) h = ap (λ o. o ∷ map (outcome_of these xs) ws) (by (has_lost w.request.node xs) refl) ∙ ap (λ os. outcome_of those xs w ∷ os) (same_outcomes these those xs ws h)
  where
    by : (b : Bool) → has_lost w.request.node xs ≡ b → cond b (Err (these w.request.node)) (reply_outcome (reply_or_nil w)) ≡ cond b (Err (those w.request.node)) (reply_outcome (reply_or_nil w))
    by true l = ap Err (h w.request.node l)
    by false l = refl

pub each_is_told : (faults : Address → LinkFault) (client : Client) (picks : List Address) (entries : List Entry) (ds : List Dispatch) (old new : List Node) (events : List Event) (place : ℕ) → plan client picks (Pipeline entries) ≡ Ok ds
    → log_of events ≡ map direct (concat (node_groups ds)) → Runs old new events → Agrees faults events
    → each_of (refusals_of events) ds (exchanges_of place events) ≡ told_each (λ node. refusal_by_fault (faults node)) entries (exchanges_of place events)
each_is_told faults client picks entries ds old new events place planned sent runs agrees =
    let xs = exchanges_of place events in
    same_outcomes (refusals_of events) (λ node. refusal_by_fault (faults node)) xs (position_exchanges ds xs) (refusals_are_faults faults old new events place runs agrees)
    ∙ ap (map (outcome_of (λ node. refusal_by_fault (faults node)) xs)) (sym (order_is_theirs client entries ds xs (pipe_dispatches client picks entries ds planned) (exchanged events place ∙ sent)))

-- ---- no node with two link calls

fewer : (x : Event) (xs : List Event) (a : Address) → length (calls_of (x ∷ xs) a) ≤ 1 → length (calls_of xs a) ≤ 1
fewer x xs a = by (same_address x.node a)
  where
    by : (b : Bool) → length (cond b (x.requests ∷ calls_of xs a) (calls_of xs a)) ≤ 1 → length (calls_of xs a) ≤ 1
    by true l = omega arith
    by false l = l

not_called : (a : Address) (xs : List Event) → length (calls_of xs a) ≤ 0 → list_any (λ k. same_address a k) (map (λ (x : Event). x.node) xs) ≡ false
not_called a [] l = refl
not_called a (x ∷ xs) l = by (same_address x.node a) refl l (λ k. not_called a xs k)
  where
    by : (b : Bool) → same_address x.node a ≡ b → length (cond b (x.requests ∷ calls_of xs a) (calls_of xs a)) ≤ 0 → (length (calls_of xs a) ≤ 0 → list_any (λ k. same_address a k) (map (λ (y : Event). y.node) xs) ≡ false)
        → (same_address a x.node || list_any (λ k. same_address a k) (map (λ (y : Event). y.node) xs)) ≡ false
    by true t k ih = absurd (omega arith)
    by false t k ih = ap (λ b. b || list_any (λ k. same_address a k) (map (λ (y : Event). y.node) xs)) (swapped a x.node ∙ t) ∙ ih k

called_once : (xs : List Event) → ((a : Address) → length (calls_of xs a) ≤ 1) → IsDistinct same_address (map (λ (x : Event). x.node) xs)
called_once [] h = tt
called_once (x ∷ xs) h = (
  not_called x.node xs (let l = subst (λ b. length (cond b (x.requests ∷ calls_of xs x.node) (calls_of xs x.node)) ≤ 1) (same_refl x.node) (h x.node) in omega arith),
  called_once xs (λ a. fewer x xs a (h a)),
)

-- where all requests to a node are of one link call
pub nodes_apart : (xs : List Event) → ((a : Address) → calls_of xs a ≡ in_one (requests_to a (log_of xs))) → IsDistinct same_address (map (λ (x : Event). x.node) xs)
nodes_apart xs h = called_once xs (λ a. subst (λ calls. length calls ≤ 1) (sym (h a)) (by (requests_to a (log_of xs))))
  where
    by : (qs : List Request) → length (in_one qs) ≤ 1
    by [] = omega arith
    by (q ∷ qs) = omega arith
