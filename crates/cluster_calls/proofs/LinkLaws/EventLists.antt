-- What link calls add up to, those of one run and then those of another.
use Rattle.std.specs.Prelude.{drop, ◌||◌}
use Rattle.std.proofs.Common.{◌≡◌, ℕ, suc, ◌+◌, Bool, true, false, cond, List, [], ◌∷◌, ◌++◌, length, refl, sym, ap, ◌∙◌, subst, append_assoc, append-nil, length-append, arith}
use Rattle.std.proofs.lemmas.Bool.{false≢true}
use Rattle.std.proofs.lemmas.List.Folds.{list_any-append}
use Rattle.std.proofs.lemmas.List.{map-append}
use Rattle.resp_core.specs.Trees.{Tree}
use Rattle.resp_link.specs.Replies.{replies_of}
use Rattle.cluster_routing.specs.Address.{Address, same_address}
use Rattle.cluster_routing.specs.Lists.{concat}
use Rattle.cluster_calls.specs.Links.Request.{Request, requests_to, skipped}
use Rattle.cluster_calls.specs.Links.Log.{Exchange, requests}
use Rattle.cluster_calls.specs.Links.World.{Node}
use Rattle.cluster_calls.specs.Links.Events.{Event, AllTo, Runs, log_of, taken_of, calls_of, pair_up, exchanges_at, exchanges_of, is_memory_ending, lack_memory, StopsAtMemory, answered_moved}
use Rattle.cluster_calls.proofs.LinkLaws.Addresses.{same_true}
use Rattle.cluster_calls.proofs.LinkLaws.LinkRuns.{requests_same, requests_other, or_parts}

-- ---- one run and then another

pub log-append : (xs ys : List Event) → log_of (xs ++ ys) ≡ log_of xs ++ log_of ys
log-append [] ys = refl
log-append (x ∷ xs) ys = ap (λ qs. x.requests ++ qs) (log-append xs ys) ∙ sym (append_assoc x.requests (log_of xs) (log_of ys))

calls_by : (x : Event) (xs ys : List Event) (a : Address) (b : Bool) → calls_of (xs ++ ys) a ≡ calls_of xs a ++ calls_of ys a
    → cond b (x.requests ∷ calls_of (xs ++ ys) a) (calls_of (xs ++ ys) a) ≡ cond b (x.requests ∷ calls_of xs a) (calls_of xs a) ++ calls_of ys a
calls_by x xs ys a true h = ap (λ cs. x.requests ∷ cs) h
calls_by x xs ys a false h = h

pub calls-append : (xs ys : List Event) (a : Address) → calls_of (xs ++ ys) a ≡ calls_of xs a ++ calls_of ys a
calls-append [] ys a = refl
calls-append (x ∷ xs) ys a = calls_by x xs ys a (same_address x.node a) (calls-append xs ys a)

taken_by : (x : Event) (xs ys : List Event) (a : Address) (b : Bool) → taken_of (xs ++ ys) a ≡ taken_of xs a ++ taken_of ys a
    → cond b (x.taken ++ taken_of (xs ++ ys) a) (taken_of (xs ++ ys) a) ≡ cond b (x.taken ++ taken_of xs a) (taken_of xs a) ++ taken_of ys a
taken_by x xs ys a true h = ap (λ ts. x.taken ++ ts) h ∙ sym (append_assoc x.taken (taken_of xs a) (taken_of ys a))
taken_by x xs ys a false h = h

pub taken-append : (xs ys : List Event) (a : Address) → taken_of (xs ++ ys) a ≡ taken_of xs a ++ taken_of ys a
taken-append [] ys a = refl
taken-append (x ∷ xs) ys a = taken_by x xs ys a (same_address x.node a) (taken-append xs ys a)

pub exchanges-append : (xs ys : List Event) (place : ℕ) → exchanges_of place (xs ++ ys) ≡ exchanges_of place xs ++ exchanges_of (place + length (log_of xs)) ys
exchanges-append [] ys place =
    let z : place ≡ place + 0 = omega arith in
    ap (λ p. exchanges_of p ys) z
exchanges-append (x ∷ xs) ys place =
    let l : length (x.requests ++ log_of xs) ≡ length x.requests + length (log_of xs) = length-append x.requests (log_of xs) in
    let p : place + length x.requests + length (log_of xs) ≡ place + length (x.requests ++ log_of xs) = omega arith in
    ap (λ es. exchanges_at place x ++ es) (exchanges-append xs ys (place + length x.requests) ∙ ap (λ n. exchanges_of (place + length x.requests) xs ++ exchanges_of n ys) p)
    ∙ sym (append_assoc (exchanges_at place x) (exchanges_of (place + length x.requests) xs) (exchanges_of (place + length (x.requests ++ log_of xs)) ys))

pub memory_both : (xs ys : List Event) → lack_memory (xs ++ ys) ≡ (lack_memory xs || lack_memory ys)
memory_both xs ys = list_any-append (λ (x : Event). is_memory_ending x.ending) xs ys

pub memory-append : (xs ys : List Event) → lack_memory xs ≡ false → lack_memory ys ≡ false → lack_memory (xs ++ ys) ≡ false
memory-append xs ys m n = memory_both xs ys ∙ ap (λ b. b || lack_memory ys) m ∙ n

pub moved-append : (xs ys : List Event) → answered_moved (xs ++ ys) ≡ (answered_moved xs || answered_moved ys)
moved-append xs ys = list_any-append _ xs ys

-- ---- the log

paired_requests : (trees : List Tree) (place : ℕ) (qs : List Request) → requests (pair_up trees place qs) ≡ qs
paired_requests trees place [] = refl
paired_requests trees place (q ∷ qs) = ap (λ r. q ∷ r) (paired_requests (drop (skipped q.asking + 1) trees) (suc place) qs)

-- the requests of the exchanges are the log
pub exchanged : (xs : List Event) (place : ℕ) → requests (exchanges_of place xs) ≡ log_of xs
exchanged [] place = refl
exchanged (x ∷ xs) place =
    map-append (λ (e : Exchange). e.request) (exchanges_at place x) (exchanges_of (place + length x.requests) xs)
    ∙ ap (λ qs. qs ++ requests (exchanges_of (place + length x.requests) xs)) (paired_requests (replies_of x.taken) place x.requests)
    ∙ ap (λ qs. x.requests ++ qs) (exchanged xs (place + length x.requests))

concat_by : (x : Event) (xs : List Event) (a : Address) → AllTo x.node x.requests → concat (calls_of xs a) ≡ requests_to a (log_of xs)
    → (b : Bool) → same_address x.node a ≡ b → concat (cond b (x.requests ∷ calls_of xs a) (calls_of xs a)) ≡ requests_to a (x.requests ++ log_of xs)
concat_by x xs a all h true t =
    let to : AllTo a x.requests = subst (λ k. AllTo k x.requests) (same_true x.node a t) all in
    ap (λ qs. x.requests ++ qs) h ∙ sym (requests_same a x.requests (log_of xs) to)
concat_by x xs a all h false t = h ∙ sym (requests_other x.node a x.requests (log_of xs) all t)

-- what went to a node by its link calls is what the log has for it
pub concat_calls : (old new : List Node) (xs : List Event) → Runs old new xs → (a : Address) → concat (calls_of xs a) ≡ requests_to a (log_of xs)
concat_calls old new [] r a = refl
concat_calls old new (x ∷ xs) r a = concat_by x xs a r.1.to_node (concat_calls r.0 new xs r.2 a) (same_address x.node a) refl

-- ---- behind want of memory

-- link calls that had memory, and then some that stop where one lacks it
pub stops-append : (xs ys : List Event) → lack_memory xs ≡ false → StopsAtMemory ys → StopsAtMemory (xs ++ ys)
stops-append [] ys m s = s
stops-append (x ∷ xs) ys m s =
    let had = or_parts (is_memory_ending x.ending) (lack_memory xs) m in
    (λ lacks. absurd (false≢true (sym had.0 ∙ lacks)), stops-append xs ys had.1 s)

pub stops-one : (x : Event) → StopsAtMemory (x ∷ [])
stops-one x = (λ lacks. refl, tt)

pub stops-had : (xs : List Event) → lack_memory xs ≡ false → StopsAtMemory xs
stops-had xs m = subst StopsAtMemory (append-nil xs) (stops-append xs [] m tt)
